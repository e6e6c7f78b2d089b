use Rattle.std.proofs.Common.{◌≡◌, take}
use Rattle.std.specs.Prelude.{map}
use Rattle.lift_tree.specs.Lists.{zip_with}
use Rattle.lift_tree.specs.Values.{Both, value_of}
use Rattle.pattern_value.proofs.layout.zipped.Given as goal

abbrev pub invariant-loop-index : goal.invariant-loop-index
invariant-loop-index l = map value_of l.pairs.items ≡ zip_with Both (take l.index (map value_of l.xs)) (take l.index (map value_of l.ys))
