use Rattle.std.proofs.Common.{◌≡◌, take}
use Rattle.std.specs.Prelude.{map}
use Rattle.lift_tree.specs.Values.{value_of}
use Rattle.pattern_value.specs.Shut.{fold_by}
use Rattle.pattern_value.proofs.evaluate.reduced.Given as goal

abbrev pub invariant-loop-x : goal.invariant-loop-x
invariant-loop-x l = value_of l.end ≡ fold_by l.reducer (value_of l.fn.start) (map value_of (take l.x-index l.xs))
