use Rattle.std.proofs.Common.{◌≡◌, take}
use Rattle.std.specs.Prelude.{map}
use Rattle.lift_tree.specs.Values.{value_of}
use Rattle.pattern_value.proofs.part.+copying.Given as goal

abbrev pub invariant-all_copied-loop-x : goal.invariant-all_copied-loop-x
invariant-all_copied-loop-x l = map value_of l.all.items ≡ map value_of (take l.x-index l.xs)
