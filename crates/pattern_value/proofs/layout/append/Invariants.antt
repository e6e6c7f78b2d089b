use Rattle.std.proofs.Common.{◌≡◌, ◌++◌}
use Rattle.std.specs.Prelude.{map}
use Rattle.lift_tree.specs.Values.{value_of}
use Rattle.pattern_value.proofs.layout.append.Given as goal

abbrev pub invariant-loop-x : goal.invariant-loop-x
invariant-loop-x l = map value_of l.all.items ≡ map value_of l.fn.all.items ++ map value_of l.yielded
