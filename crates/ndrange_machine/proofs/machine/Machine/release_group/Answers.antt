use Rattle.std.proofs.Common.{◌∙◌, ap, arith}
use Rattle.kernel_tree.specs.Launch.{group_count}
use Rattle.enabled_events.specs.Grids.{laid}
use Rattle.ndrange_machine.proofs.machine.Machine.release_group.Goals as goal

pub returns-else-group-group_count : goal.returns-else-group-group_count
returns-else-group-group_count c = λ k l d es st clean en.
    let count = c.group_count.ensures ∙ ap (λ z. group_count (laid z)) c.grid.ensures ∙ ap group_count st.holds.launch in
    let lt = en.0 in
    absurd (omega (arith, c.if-group-group_count.false, count, lt))
