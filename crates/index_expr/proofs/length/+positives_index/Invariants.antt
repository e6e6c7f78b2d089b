use Rattle.std.proofs.Common.{length}
use Rattle.index_expr.proofs.length.+positives_index.Given as goal

abbrev pub decreases-positives_index : goal.decreases-positives_index
decreases-positives_index l = length l.monomials.now
