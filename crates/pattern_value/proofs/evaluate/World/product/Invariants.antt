use Rattle.std.proofs.Common.{◌≡◌, drop}
use Rattle.std.specs.Prelude.{min}
use Rattle.lift_tree.specs.Meaning.{product_at}
use Rattle.pattern_value.specs.World.{world_of}
use Rattle.pattern_value.proofs.evaluate.World.product.Given as goal

abbrev pub invariant-loop-index : goal.invariant-loop-index
invariant-loop-index l = l.product ≡ min (product_at (world_of l.self).sizes (drop l.index l.factors)) 18446744073709551615
