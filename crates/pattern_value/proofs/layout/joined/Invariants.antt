use Rattle.std.proofs.Common.{◌≡◌}
use Rattle.std.specs.Prelude.{map}
use Rattle.lift_tree.specs.Lists.{concat}
use Rattle.lift_tree.specs.Values.{value_of, members}
use Rattle.pattern_value.proofs.layout.joined.Given as goal

abbrev pub invariant-loop-row : goal.invariant-loop-row
invariant-loop-row l = map value_of l.all.items ≡ concat (map members (map value_of l.yielded))
