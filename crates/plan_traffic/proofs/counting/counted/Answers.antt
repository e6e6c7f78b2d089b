use Rattle.std.proofs.Common.{◌≡◌, subst, sym}
use Rattle.kernel_tree.specs.Launch.{ids_of}
use Rattle.lift_ir.specs.AtLaunch.{length_at}
use Rattle.lowering.specs.Terms.{term_of}
use Rattle.term_traffic.specs.Short.{HasShortLoops}
use Rattle.term_traffic.specs.Traffic.{whole_traffic}
use Rattle.launch_lengths.specs.Bases.{bases_of}
use Rattle.item_traffic.specs.Counts.{held, load_of, store_of}
use Rattle.plan_traffic.proofs.Plans.{short_at}
use Rattle.plan_traffic.proofs.counting.counted.Goals as goal

pub written-requires-clause-short : goal.written-requires-clause-short
written-requires-clause-short c =
    let plan = c.args.plan.now in
    let l = c.args.launch.now in
    subst (λ ns. HasShortLoops (length_at (bases_of ns l.sizes)) (term_of plan.root)) (sym c.as_slice.ensures.same) (short_at plan l c.typed_terms_have_short_loops.ensures c.legal_terms_are_printable.ensures c.requires.launch)

pub returns : goal.returns
returns c =
    let plan = c.args.plan.now in
    let l = c.args.launch.now in
    subst (λ ns. c.written.result ≡ held (whole_traffic (load_of c.args.access) (store_of c.args.access) (length_at (bases_of ns l.sizes)) (ids_of l c.args.item) (term_of plan.root))) c.as_slice.ensures.same c.written.ensures
