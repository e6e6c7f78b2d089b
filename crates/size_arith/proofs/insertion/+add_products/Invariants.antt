use Rattle.std.proofs.Common.{length}
use Rattle.size_arith.proofs.insertion.+add_products.Given as goal

abbrev pub decreases-add_products : goal.decreases-add_products
decreases-add_products l = length l.a.now
