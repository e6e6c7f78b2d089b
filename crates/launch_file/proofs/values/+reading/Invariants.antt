use Rattle.std.proofs.Common.{◌≡◌, ◌+◌, ◌*◌, ◌++◌, drop}
use Rattle.std.specs.Prelude.{map, option_map}
use Rattle.serde_json.specs.View.{items_view}
use Rattle.lift_tree.specs.InputTypes.{written_of}
use Rattle.lift_tree.specs.Values.{value_of}
use Rattle.launch_file.specs.Inputs.{read_all, read_value}
use Rattle.launch_file.proofs.values.+reading.Given as goal

abbrev pub decreases-value_in : goal.decreases-value_in
decreases-value_in l = 2 * goal.size-value_in l

abbrev pub decreases-members_in : goal.decreases-members_in
decreases-members_in l = 2 * goal.size-members_in l + 1

abbrev pub invariant-members_in-loop-member : goal.invariant-members_in-loop-member
invariant-members_in-loop-member l =
    read_all (read_value l.sizes (written_of l.ty)) (items_view l.values)
    ≡ option_map (λ vs. map value_of l.members.items ++ vs) (read_all (read_value l.sizes (written_of l.ty)) (items_view (drop l.member-index l.values)))
