use Rattle.std.proofs.Common.{◌≡◌, ℤ, length, ◌-◌, ◌≤◌, take, drop, ◌++◌}
use Rattle.size_arith.specs.Polynomial.{put}
use Rattle.size_arith.proofs.insertion.find.Given as goal

abbrev pub invariant-loop-i : goal.invariant-loop-i
invariant-loop-i l = record {
  within : l.i ≤ length l.monomials;
  puts : (c : ℤ) → put c l.powers l.monomials ≡ take l.i l.monomials ++ put c l.powers (drop l.i l.monomials);
}

abbrev pub decreases-loop-i : goal.decreases-loop-i
decreases-loop-i l = length l.monomials - l.i
