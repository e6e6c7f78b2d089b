use Rattle.std.proofs.Common.{length}
use Rattle.index_expr.proofs.length.+product_index.Given as goal

abbrev pub decreases-product_index : goal.decreases-product_index
decreases-product_index l = length l.names.now
