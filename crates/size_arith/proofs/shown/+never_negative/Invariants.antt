use Rattle.std.proofs.Common.{◌≡◌, ℕ, ◌+◌, ◌-◌, ◌<◌, ◌≤◌, ◌++◌, ◌∷◌, List, length, take, pos}
use Rattle.std.specs.Prelude.{neg_ℤ, ◌≤ℤ◌}
use Rattle.size_arith.specs.Polynomial.{number, total}
use Rattle.size_arith.specs.Shown.{shifted}
use Rattle.size_arith.proofs.shown.+never_negative.Given as goal

abbrev pub decreases-never_negative : goal.decreases-never_negative
decreases-never_negative l = length l.leasts.now - l.index

abbrev pub invariant-loop-power : goal.invariant-loop-power
invariant-loop-power l = record {
  wide : length l.next ≡ 8;
  chosen : take l.index l.next ≡ take l.index l.fn.powers;
  shown : (j : ℕ) (js : List ℕ) → j < l.power → length js ≡ length l.leasts - (l.index + 1) → total js ≤ l.left - j → pos 0 ≤ℤ shifted l.leasts (number (neg_ℤ (pos l.k)) ∷ l.monomials) (take l.index l.fn.powers ++ j ∷ js);
}
