use Rattle.std.proofs.Common.{◌≡◌, ◌+◌, ℕ, ◌<◌, subst, sym}
use Rattle.kernel_tree.specs.Launch.{ids_of}
use Rattle.lift_ir.specs.AtLaunch.{length_at}
use Rattle.lowering.specs.Terms.{term_of}
use Rattle.term_traffic.specs.Short.{HasShortLoops}
use Rattle.term_traffic.specs.Traffic.{traffic_of}
use Rattle.launch_lengths.specs.Bases.{bases_of}
use Rattle.plan_traffic.proofs.Groups.{row_end}
use Rattle.plan_traffic.proofs.Plans.{short_at, whole_at}
use Rattle.plan_traffic.proofs.counting.items_alike.Goals as goal

pub alike-requires-clause-short : goal.alike-requires-clause-short
alike-requires-clause-short c =
    let plan = c.args.plan.now in
    let l = c.args.launch.now in
    subst (λ ns. HasShortLoops (length_at (bases_of ns l.sizes)) (term_of plan.root)) (sym c.as_slice.ensures.same) (short_at plan l c.typed_terms_have_short_loops.ensures c.legal_terms_are_printable.ensures c.requires.launch)

pub returns-clause-few : goal.returns-clause-few
returns-clause-few c = row_end c.args.launch.now (whole_at c.args.plan.now c.args.launch.now c.requires.launch) c.args.item c.alike.result c.requires.within c.alike.ensures.row

pub returns-clause-alike : goal.returns-clause-alike
returns-clause-alike c =
    let plan = c.args.plan.now in
    let l = c.args.launch.now in
    subst (λ ns. (k : ℕ) → k < c.alike.result → traffic_of (length_at (bases_of ns l.sizes)) (ids_of l c.args.item) (term_of plan.root) ≡ traffic_of (length_at (bases_of ns l.sizes)) (ids_of l (c.args.item + k)) (term_of plan.root)) c.as_slice.ensures.same
    (λ k lt. c.items_load_and_store_alike.ensures (bases_of c.as_slice.result.now l.sizes) (term_of plan.root) (ids_of l c.args.item) (ids_of l (c.args.item + k)) (c.alike.ensures.alike k lt))
