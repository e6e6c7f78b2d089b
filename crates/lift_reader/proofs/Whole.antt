-- The tokens of a program's text.
use Rattle.std.proofs.Common.{◌≡◌, ℕ, List, [], ◌∷◌, ◌∙◌, refl, ap, subst, map}
use Rattle.lift_tree.specs.Programs.{PlainProgram}
use Rattle.lift_reader.specs.declared.token.Kind.{Kind}
use Rattle.lift_reader.specs.declared.token.Token.{Token}
use Rattle.lift_reader.specs.Shown.{lexeme, placed}
use Rattle.lift_reader.specs.Tokens.{Lexeme, AreTokens}
use Rattle.lift_reader.specs.Grammar.{IsProgram}
use Rattle.lift_reader.specs.ProgramText.{IsProgramText, lexemes}
use Rattle.lift_reader.proofs.OneCut.{one_list}

each_lexeme : (tokens : List Token) → map lexeme (map (λ t. t.kind) tokens) ≡ lexemes (map placed tokens)
each_lexeme [] = refl
each_lexeme (t ∷ tokens) = ap (λ z. lexeme t.kind ∷ z) (each_lexeme tokens)

pub lexemes_are : (tokens held : List Token) (kinds : List Kind) → held ≡ tokens → kinds ≡ map (λ t. t.kind) held → map lexeme kinds ≡ lexemes (map placed tokens)
lexemes_are tokens held kinds e k = ap (map lexeme) (k ∙ ap (map (λ t. t.kind)) e) ∙ each_lexeme tokens

pub same_program : (text : List ℕ) (tokens : List (ℕ × Lexeme)) (p : PlainProgram) → AreTokens 0 text tokens → IsProgramText text p → IsProgram (lexemes tokens) p
same_program text tokens p are h = subst (λ z. IsProgram (lexemes z) p) (one_list 0 text h.tokens tokens h.are are) h.program
