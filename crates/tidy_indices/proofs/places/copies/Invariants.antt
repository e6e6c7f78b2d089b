use Rattle.std.proofs.Common.{◌≡◌}
use Rattle.std.specs.Prelude.{map, take}
use Rattle.index_expr.specs.Expression.{expression_of}
use Rattle.tidy_indices.proofs.places.copies.Given as goal

abbrev pub invariant-loop-index : goal.invariant-loop-index
invariant-loop-index l = map expression_of l.copies.items ≡ map expression_of (take l.index-index l.indices)
