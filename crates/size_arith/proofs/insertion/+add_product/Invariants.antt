use Rattle.std.proofs.Common.{length}
use Rattle.size_arith.proofs.insertion.+add_product.Given as goal

abbrev pub decreases-add_product : goal.decreases-add_product
decreases-add_product l = length l.monomials.now
