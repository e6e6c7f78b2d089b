use Rattle.std.proofs.Common.{◌≡◌, ◌++◌}
use Rattle.std.specs.Prelude.{map}
use Rattle.lift_tree.specs.Values.{value_of}
use Rattle.pattern_value.specs.Pieces.{pieces_in}
use Rattle.pattern_value.proofs.layout.Pieces.cut.Given as goal

abbrev pub invariant-loop-left : goal.invariant-loop-left
invariant-loop-left l = map value_of l.rows.items ++ pieces_in l.left ≡ pieces_in l.self

abbrev pub decreases-loop-left : goal.decreases-loop-left
decreases-loop-left l = l.left.count
