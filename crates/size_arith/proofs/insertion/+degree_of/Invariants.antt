use Rattle.std.proofs.Common.{length}
use Rattle.size_arith.proofs.insertion.+degree_of.Given as goal

abbrev pub decreases-degree_of : goal.decreases-degree_of
decreases-degree_of l = length l.monomials.now
