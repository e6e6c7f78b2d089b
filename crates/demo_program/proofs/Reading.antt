-- The demo's program is read, by computing.
use Rattle.std.proofs.Common.{◌≡◌, ℕ, zero, suc, ◌+◌, List, [], ◌∷◌, Bool, true, Ok, refl, length, take, drop}
use Rattle.std.specs.Prelude.{if◌then◌else◌, nat_eq, nat_lt, ◌&&◌}
use Rattle.std.proofs.lemmas.Bool.{and_parts, eqb-true, ltb-true}
use Rattle.readings.specs.Running.{run}
use Rattle.readings.proofs.Exact.{run-sound}
use Rattle.lift_reader.specs.Decided.{decided}
use Rattle.lift_reader.specs.Grammar.{Noted, nothing, programs, start}
use Rattle.lift_reader.specs.ProgramText.{IsProgramText, lexemes}
use Rattle.lift_reader.specs.Rows.{same, table}
use Rattle.lift_reader.specs.Tokens.{AreTokens, Lexeme, gap_len, lexeme_of, run_len}
use Rattle.lift_reader.specs.Words.{word_of}
use Rattle.demo_program.specs.Texts.{program_text}
use Rattle.demo_program.specs.Accepted.{demo_program, sums}

-- a text's tokens, at most so many, from this byte on
tokens_from : (most at : ℕ) → List ℕ → List (ℕ × Lexeme)
tokens_from zero at text = []
tokens_from (suc most) at text =
    let rest = drop (gap_len text) text in
    let from = at + gap_len text in
    let len = run_len rest in
    if nat_lt 0 (length rest) then (from, lexeme_of (take len rest)) ∷ tokens_from most (from + len) (drop len rest) else []

-- whether these are all of a text's tokens
are_tokens : ℕ → List ℕ → List (ℕ × Lexeme) → Bool
are_tokens at text [] = nat_eq (length text) (gap_len text)
are_tokens at text (token ∷ tokens) =
    let rest = drop (gap_len text) text in
    nat_lt 0 (length rest)
    && (nat_eq token.0 (at + gap_len text) && (same token.1 (lexeme_of (take (run_len rest) rest)) && are_tokens (token.0 + run_len rest) (drop (run_len rest) rest) tokens))

tokens-are : (at : ℕ) (text : List ℕ) (tokens : List (ℕ × Lexeme)) → are_tokens at text tokens ≡ true → AreTokens at text tokens
unfolding are_tokens
tokens-are at text [] e = eqb-true (length text) (gap_len text) e
tokens-are at text (token ∷ tokens) e =
    let rest = drop (gap_len text) text in
    let lexeme = lexeme_of (take (run_len rest) rest) in
    let some = and_parts (nat_lt 0 (length rest)) _ e in
    let place = and_parts (nat_eq token.0 (at + gap_len text)) _ some.1 in
    let whole = and_parts (same token.1 lexeme) _ place.1 in
    (ltb-true 0 (length rest) some.0, eqb-true token.0 (at + gap_len text) place.0, decided.same token.1 lexeme whole.0, tokens-are (token.0 + run_len rest) (drop (run_len rest) rest) tokens whole.1)

program_tokens : List (ℕ × Lexeme)
unfolding tokens_from
program_tokens = tokens_from 60 0 program_text

program_cut : are_tokens 0 program_text program_tokens ≡ true
unfolding are_tokens tokens_from program_tokens word_of
program_cut = refl

-- what is noted in the end
noted : Noted
noted = record { sizes = demo_program.sizes; inputs = demo_program.inputs; scope = []; types = []; products = []; parts = []; made = sums ∷ [] }

program_runs : run table start nothing (lexemes program_tokens) ≡ Ok noted
unfolding tokens_from program_tokens word_of noted
program_runs = refl

pub program_read : IsProgramText program_text demo_program
unfolding noted
program_read = record {
  tokens = program_tokens;
  are = tokens-are 0 program_text program_tokens program_cut;
  program = record { noted = noted; reads = run-sound programs table decided (lexemes program_tokens) start nothing noted program_runs; sizes = refl; inputs = refl; body = refl };
}
