use Rattle.std.proofs.Common.{◌∙◌, sym, ap}
use Rattle.serde_json.specs.View.{view}
use Rattle.lift_tree.specs.Programs.{program_of}
use Rattle.launch_file.specs.Judged.{sizes_judged}
use Rattle.launch_file.proofs.Whole.{lengths_fit}
use Rattle.launch_file.proofs.stages.stages_of.Goals as goal

pub inputs_in-requires : goal.inputs_in-requires
inputs_in-requires c =
    let d = view c.in_ok-launches.field-0.sizes.now in
    let h = ap (λ ss. sizes_judged 0 ss d) (sym c.deref.ensures.value) ∙ c.in_ok-given.ensures.ok in
    rw (c.deref-2.ensures.value, c.deref-3.ensures.value) (lengths_fit (program_of c.args.program.now) d c.in_ok-given.given.items c.requires h)
