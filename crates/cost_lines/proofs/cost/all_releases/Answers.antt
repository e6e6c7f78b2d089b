use Rattle.std.proofs.Common.{◌<◌, subst}
use Rattle.kernel_tree.specs.Launch.{Launch, first_item, group_count}
use Rattle.lowered_tree.specs.Kinds.{asks_of}
use Rattle.phase_plan.specs.Plans.{declared_in, local_in, tree_in}
use Rattle.plan_traffic.specs.Plans.{bases_at}
use Rattle.printed_form.proofs.Programs as programs
use Rattle.cost_lines.specs.Costs.{releases_at}
use Rattle.cost_lines.proofs.Sums.{first_of, sum_more}
use Rattle.cost_lines.proofs.cost.all_releases.Goals as goal

pub loop-group-preserved : goal.loop-group-preserved
loop-group-preserved c =
    let plan = c.args.plan.now in
    let l = c.args.launch.now in
    let whole = programs.whole l (asks_of (local_in plan) (tree_in plan)) (declared_in plan).names (bases_at plan l) c.requires.admissible in
    let laid = c.layout.ensures.whole c.args.launch.now whole in
    let below : c.loop-group.group < group_count c.args.launch.now = subst (λ (x : Launch). c.loop-group.group < group_count x) c.launch.view_is c.loop-group-test.true in
    let first = first_of c.args.launch.now laid c.loop-group.group below in
    sum_more (releases_at c.args.plan.now c.args.launch.now) c.loop-group.group c.loop-group.all c.releases.result c.saturating_add-all.result c.loop-group.invariant (c.releases.ensures (first_item c.args.launch.now c.loop-group.group) first.0 first.1) c.saturating_add-all.ensures
