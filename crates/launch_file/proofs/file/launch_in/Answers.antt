use Rattle.std.proofs.Common.{◌∙◌, sym, ap}
use Rattle.serde_json.specs.View.{view}
use Rattle.lift_tree.specs.Programs.{program_of}
use Rattle.launch_file.specs.Judged.{sizes_judged}
use Rattle.launch_file.proofs.Whole.{lengths_fit}
use Rattle.launch_file.proofs.file.launch_in.Goals as goal

pub asked_inputs-requires : goal.asked_inputs-requires
asked_inputs-requires c =
    let d = view c.in_ok-global.field-0.sizes.now in
    let h = ap (λ ss. sizes_judged 0 ss d) (sym c.deref.ensures.value) ∙ c.in_ok-given.ensures.ok in
    rw (c.deref-2.ensures.value) (lengths_fit (program_of c.args.program.now) d c.in_ok-given.given.items c.requires h)
