use Rattle.std.proofs.Common.{◌≡◌, ◌++◌, take, drop}
use Rattle.size_arith.specs.Polynomial.{add_powers}
use Rattle.size_arith.proofs.insertion.sum_of_powers.Given as goal

abbrev pub invariant-loop-i : goal.invariant-loop-i
invariant-loop-i l = l.powers ≡ take l.i (add_powers l.a l.b) ++ drop l.i l.a
