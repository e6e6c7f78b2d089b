use Rattle.std.proofs.Common.{◌≡◌, drop}
use Rattle.size_arith.specs.Polynomial.{of_monomial}
use Rattle.lift_tree.specs.WorkedOut.{product_of}
use Rattle.lowering.proofs.strides.product.Given as goal

abbrev pub invariant-loop-index : goal.invariant-loop-index
invariant-loop-index l = l.so_far ≡ of_monomial (product_of l.names (drop l.index l.factors))
