use Rattle.std.proofs.Common.{◌≡◌, take}
use Rattle.std.specs.Prelude.{map}
use Rattle.scalar_ops.specs.Operators.{apply_op}
use Rattle.lift_tree.specs.Lists.{zip_with}
use Rattle.lift_tree.specs.Values.{value_of}
use Rattle.pattern_value.specs.Shut.{lane}
use Rattle.pattern_value.proofs.lanes.by_lanes.Given as goal

abbrev pub invariant-loop-index : goal.invariant-loop-index
invariant-loop-index l = map value_of l.all.items ≡ zip_with (lane (apply_op l.op)) (take l.index (map value_of l.xs)) (take l.index (map value_of l.ys))
