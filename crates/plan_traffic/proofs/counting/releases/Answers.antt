use Rattle.std.proofs.Common.{◌≡◌, subst, sym, ap, ◌∙◌, ⊎_elim}
use Rattle.kernel_tree.specs.Launch.{ids_of}
use Rattle.lift_ir.specs.AtLaunch.{length_at}
use Rattle.lowering.specs.Terms.{term_of}
use Rattle.phase_plan.specs.declared.kind.Kind.TheVariants.{Task, OverLaunch}
use Rattle.term_traffic.specs.Short.{HasShortLoops}
use Rattle.term_traffic.specs.Traffic.{group_turns}
use Rattle.launch_lengths.specs.Bases.{bases_of}
use Rattle.item_traffic.specs.Counts.{held}
use Rattle.plan_traffic.specs.Plans.{bases_at, fence_of}
use Rattle.plan_traffic.proofs.Barriers.{none_open}
use Rattle.plan_traffic.proofs.Plans.{none_released, listed_over_grid, listed_over_groups, released, short_at, whole_at}
use Rattle.plan_traffic.proofs.counting.releases.Goals as goal

pub turns-turns-requires-clause-short : goal.turns-turns-requires-clause-short
turns-turns-requires-clause-short c =
    let plan = c.args.plan.now in
    let l = c.args.launch.now in
    subst (λ ns. HasShortLoops (length_at (bases_of ns l.sizes)) (term_of plan.root)) (sym c.as_slice.ensures.same) (short_at plan l c.typed_terms_have_short_loops.ensures c.legal_terms_are_printable.ensures c.requires.launch)

pub returns-in-OverGroups : goal.returns-in-OverGroups
returns-in-OverGroups c = λ j lt is.
    let plan = c.args.plan.now in
    let l = c.args.launch.now in
    let phases = c.in-OverGroups.phases in
    let laid = c.layout.ensures.whole l (whole_at plan l c.requires.launch) in
    let law = c.legal_terms_are_printable.ensures in
    let turns = subst (λ ns. c.turns-turns.result ≡ held (group_turns (length_at (bases_of ns l.sizes)) (ids_of l c.first_item_of.result) (term_of plan.root))) c.as_slice.ensures.same c.turns-turns.ensures in
    let here = subst (λ i. c.turns-turns.result ≡ held (group_turns (length_at (bases_at plan l)) (ids_of l i) (term_of plan.root))) c.first_item_of.ensures.is turns in
    let count = c.len.ensures ∙ phases.barriers.ok.0 in
    ⊎_elim
    (λ e. released plan l phases c.args.group j c.saturating_mul.result c.turns-turns.result c.len.result (listed_over_groups plan phases law e) (ap fence_of e) laid c.requires.within lt is here count c.saturating_mul.ensures)
    (λ e. released plan l phases c.args.group j c.saturating_mul.result c.turns-turns.result c.len.result (listed_over_grid plan phases law e) (ap fence_of e) laid c.requires.within lt is here count c.saturating_mul.ensures)
    c.in-OverGroups.is

pub returns-in-Task : goal.returns-in-Task
returns-in-Task c = λ j lt is. ⊎_elim (λ e. none_released c.args.plan.now c.args.launch.now (ids_of c.args.launch.now j) Task e none_open) (λ e. none_released c.args.plan.now c.args.launch.now (ids_of c.args.launch.now j) OverLaunch e none_open) c.in-Task.is

pub returns-in-Task-2 : goal.returns-in-Task-2
returns-in-Task-2 c = λ j lt is. ⊎_elim (λ e. none_released c.args.plan.now c.args.launch.now (ids_of c.args.launch.now j) Task e none_open) (λ e. none_released c.args.plan.now c.args.launch.now (ids_of c.args.launch.now j) OverLaunch e none_open) c.in-Task.is
