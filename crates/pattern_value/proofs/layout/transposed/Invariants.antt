use Rattle.std.proofs.Common.{◌≡◌}
use Rattle.std.specs.Prelude.{map}
use Rattle.lift_tree.specs.Lists.{columns}
use Rattle.lift_tree.specs.Values.{value_of, members, array}
use Rattle.pattern_value.proofs.layout.transposed.Given as goal

abbrev pub invariant-loop-index : goal.invariant-loop-index
invariant-loop-index l = map value_of l.columns.items ≡ map array (columns l.index (map members (map value_of l.rows)))
