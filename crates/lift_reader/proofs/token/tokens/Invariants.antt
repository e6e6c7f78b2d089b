use Rattle.std.proofs.Common.{◌≡◌, ◌+◌, length, List, ℕ, ◌++◌, map}
use Rattle.lift_reader.specs.Tokens.{AreTokens, Lexeme}
use Rattle.lift_reader.specs.Shown.{placed}
use Rattle.lift_reader.proofs.token.tokens.Given as goal

abbrev pub invariant-loop-after : goal.invariant-loop-after
invariant-loop-after l = record {
  cut : (more : List (ℕ × Lexeme)) → AreTokens l.at l.rest more → AreTokens 0 l.fn.text (map placed l.tokens.items ++ more);
  inside : l.at + length l.rest ≡ length l.fn.text;
}

abbrev pub decreases-loop-after : goal.decreases-loop-after
decreases-loop-after l = length l.rest
