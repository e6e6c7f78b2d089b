use Rattle.std.proofs.Common.{◌≡◌}
use Rattle.std.specs.Prelude.{map, replicate}
use Rattle.lift_tree.specs.Values.{value_of}
use Rattle.pattern_value.proofs.lanes.spread.Given as goal

abbrev pub invariant-loop-index : goal.invariant-loop-index
invariant-loop-index l = map value_of l.all.items ≡ replicate l.index (value_of l.v)
