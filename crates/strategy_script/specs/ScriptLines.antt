-- What the terms of a script are written as.
use Rattle.std.specs.Prelude.{◌≡◌, ◌++◌, ℕ, List, [], ◌∷◌, codes, Ok}
use Rattle.lift_tree.specs.Lists.{Every}
use Rattle.lift_tree.specs.Programs.{PlainProgram, program_of}
use Rattle.lift_tree.specs.Tree.{tree_of}
use Rattle.lift_tree.specs.Typing.{declared_by}
use Rattle.lift_tree.specs.declared.typed.Typed.{Typed}
use Rattle.rewriting.specs.Keeps.{Keeps}
use Rattle.strategy_script.specs.Steps.{State, state_of, terms_of}
use Rattle.strategy_script.specs.declared.script.Step.{Step}
use Rattle.term_texts.specs.TermText.{text_of}

-- a term's text, and LF
abbrev pub line_of : PlainProgram → State → List ℕ
line_of p s = text_of p s.tree ++ codes "\n"

-- each term's line
abbrev pub term_lines : PlainProgram → List State → List ℕ
term_lines p [] = []
term_lines p (s ∷ ss) = line_of p s ++ term_lines p ss

-- each has the source's type and value, and copies nothing but arrays where the source does
abbrev pub KeepTheSource : Typed → List State → Type 0
KeepTheSource source terms =
    Every (λ (s : State).
    Keeps (declared_by (program_of source.program)) [] (tree_of source.term) s.tree) terms

-- the text is a line for each term of the script, the source and the term after each step
pub record AreLines (source : Typed) (steps : List Step) (text : List ℕ) : Type 0 where
  pub terms : List State
  pub made : terms_of (program_of source.program) steps (state_of source) ≡ Ok terms
  pub keep : KeepTheSource source terms
  pub written : text ≡ term_lines (program_of source.program) terms
