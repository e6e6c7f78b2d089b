use Rattle.std.proofs.Common.{◌≡◌, ◌++◌, take, drop}
use Rattle.size_arith.specs.Polynomial.{less_powers}
use Rattle.size_arith.proofs.division.difference_of_powers.Given as goal

abbrev pub invariant-loop-i : goal.invariant-loop-i
invariant-loop-i l = l.left ≡ take l.i (less_powers l.powers l.others) ++ drop l.i l.powers
