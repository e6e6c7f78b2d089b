use Rattle.std.proofs.Common.{length}
use Rattle.index_expr.proofs.length.+negatives_index.Given as goal

abbrev pub decreases-negatives_index : goal.decreases-negatives_index
decreases-negatives_index l = length l.monomials.now
