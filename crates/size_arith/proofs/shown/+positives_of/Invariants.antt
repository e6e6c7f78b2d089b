use Rattle.std.proofs.Common.{length}
use Rattle.size_arith.proofs.shown.+positives_of.Given as goal

abbrev pub decreases-positives_of : goal.decreases-positives_of
decreases-positives_of l = length l.monomials.now
