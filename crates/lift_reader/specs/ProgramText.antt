-- What reading a program's text answers.
use Rattle.std.specs.Prelude.{◌≡◌, ℕ, ◌+◌, List, Option, Some, None, Result, Ok, Err, length, map, min, nat_lt, if◌then◌else◌, slice_get}
use Rattle.std.specs.Option.{option_map_or}
use Rattle.readings.specs.declared.error.ReadError.{ReadError}
use Rattle.readings.specs.declared.error.ReadError.TheVariants as reading
use Rattle.readings.specs.Exactly.{StopsAt}
use Rattle.lift_tree.specs.declared.program.Program.{Program}
use Rattle.lift_tree.specs.Belonging.{IsProper, IsTermOf}
use Rattle.lift_tree.specs.Programs.{PlainProgram, program_of}
use Rattle.lift_tree.specs.Tree.{nodes}
use Rattle.lift_reader.specs.declared.refusal.Quantity.{Quantity}
use Rattle.lift_reader.specs.declared.refusal.Quantity.TheVariants.{Sizes, Inputs, Nodes}
use Rattle.lift_reader.specs.declared.refusal.ReadRefusal.{ReadRefusal}
use Rattle.lift_reader.specs.declared.refusal.ReadRefusal.TheVariants.{Syntax, Limit, Memory}
use Rattle.lift_reader.specs.Tokens.{Lexeme, AreTokens}
use Rattle.lift_reader.specs.Grammar.{programs, start, nothing, IsProgram, Noted, with_first}

-- the tokens without their places
abbrev pub lexemes : List (ℕ × Lexeme) → List Lexeme
lexemes tokens = map (λ t. t.1) tokens

-- the text's tokens are the program's
pub record IsProgramText (text : List ℕ) (p : PlainProgram) : Type 0 where
  pub tokens : List (ℕ × Lexeme)
  pub are : AreTokens 0 text tokens
  pub program : IsProgram (lexemes tokens) p

-- where the token with this many before it begins; for the end of the text that is its length
abbrev pub place_of : List (ℕ × Lexeme) → ℕ → (end : ℕ) → ℕ
place_of tokens before end = option_map_or (λ t. t.0) (slice_get tokens before) end

-- The text goes on up to this token, counted from 1, and not at it; it begins at this
-- byte. The end counts as a token.
pub record StopsAtToken (text : List ℕ) (token offset : ℕ) : Type 0 where
  pub tokens : List (ℕ × Lexeme)
  pub are : AreTokens 0 text tokens
  pub before : ℕ
  pub counted : token ≡ before + 1
  pub stops : StopsAt programs start nothing (lexemes tokens) before
  pub place : offset ≡ place_of tokens before (length text)

-- how many nodes the term has; the count stands still at 2^64 - 1
abbrev pub node_count : PlainProgram → ℕ
node_count p = min (nodes p.body) 18446744073709551615

-- the first quantity above its limit, with its count
abbrev pub first_limit : PlainProgram → Option (Quantity × ℕ)
first_limit p =
    if nat_lt 8 (length p.sizes) then Some (Sizes, length p.sizes)
    else (if nat_lt 8 (length p.inputs) then Some (Inputs, length p.inputs)
    else (if nat_lt 4096 (node_count p) then Some (Nodes, node_count p)
    else None))

-- why a text is refused
abbrev pub Refuses : List ℕ → ReadRefusal → Type 0
Refuses text (Syntax token offset) = StopsAtToken text token offset
Refuses text (Limit which count) =
    (p : PlainProgram) × IsProgramText text p × (first_limit p ≡ Some (which, count))
Refuses text Memory = Unit {0}

-- what a text of this program is answered: the program, or its limit, unless memory ran out
abbrev pub Answers : PlainProgram → Result Program ReadRefusal → Type 0
Answers p (Ok program) = program_of program ≡ p
Answers p (Err (Syntax token offset)) = ⊥
Answers p (Err (Limit which count)) = first_limit p ≡ Some (which, count)
Answers p (Err Memory) = Unit {0}

-- what tokens of this program are answered
abbrev pub Gives : PlainProgram → Result Program ReadError → Type 0
Gives p (Ok program) = program_of program ≡ p
Gives p (Err (reading.Refused before)) = ⊥
Gives p (Err reading.Memory) = Unit {0}

-- the program that was noted
abbrev pub program_noted : Noted → Option PlainProgram
program_noted n =
    with_first (λ t made. record { sizes = n.sizes; inputs = n.inputs; body = t }) n.made

-- a text's program within its limits is proper, and its body is a term of it
abbrev pub ProgramsMayBeTyped : Type 0
ProgramsMayBeTyped =
    (text : List ℕ) (p : PlainProgram) → IsProgramText text p → first_limit p ≡ None
    → IsProper p × IsTermOf p p.body
