use Rattle.std.proofs.Common.{length}
use Rattle.size_arith.proofs.insertion.+greatest_of.Given as goal

abbrev pub decreases-greatest_of : goal.decreases-greatest_of
decreases-greatest_of l = length l.monomials.now
