use Rattle.std.proofs.Common.{◌≡◌, ◌+◌, ◌*◌, ◌++◌, get_or}
use Rattle.std.specs.Prelude.{map}
use Rattle.lift_tree.specs.Values.{Word}
use Rattle.value_lists.specs.Lists.{row}
use Rattle.launch_file.proofs.Listed.{listed}
use Rattle.launch_file.proofs.result.push_lanes.Given as goal

abbrev pub invariant-loop-lane : goal.invariant-loop-lane
invariant-loop-lane l =
    l.text.items ≡ l.initial.text.items ++ listed (λ j. Word (get_or (row (map (λ x. x.items) l.lists) l.component) (l.number * 4 + j) 0)) l.lane
