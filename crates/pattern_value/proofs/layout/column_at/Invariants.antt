use Rattle.std.proofs.Common.{◌≡◌, take}
use Rattle.std.specs.Prelude.{map}
use Rattle.lift_tree.specs.Values.{value_of}
use Rattle.pattern_value.specs.Shut.{column}
use Rattle.pattern_value.proofs.layout.column_at.Given as goal

abbrev pub invariant-loop-row : goal.invariant-loop-row
invariant-loop-row l = map value_of l.all.items ≡ column l.index (take l.row-index l.rows)
