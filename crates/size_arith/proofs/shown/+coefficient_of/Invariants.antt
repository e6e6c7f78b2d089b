use Rattle.std.proofs.Common.{length}
use Rattle.size_arith.proofs.shown.+coefficient_of.Given as goal

abbrev pub decreases-coefficient_of : goal.decreases-coefficient_of
decreases-coefficient_of l = length l.monomials.now
