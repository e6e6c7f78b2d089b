use Rattle.std.proofs.Common.{◌∙◌, sym, subst}
use Rattle.serde_json.specs.View.{view}
use Rattle.lift_tree.specs.InputTypes.{written_of}
use Rattle.lift_tree.specs.declared.program.Input.{Input}
use Rattle.launch_file.specs.Inputs.{TypeFits}
use Rattle.launch_file.proofs.Inputs.{fits_at, inputs_step}
use Rattle.launch_file.proofs.values.inputs_in.Goals as goal

pub input_in-requires : goal.input_in-requires
input_in-requires c =
    subst (λ (x : Input). TypeFits c.args.sizes.now (written_of x.ty)) (sym c.index-inputs-index.is)
    (fits_at c.args.sizes.now c.args.inputs.now c.loop-index.index c.index-inputs-index.result c.requires c.loop-index-test.true)

pub loop-index-preserved : goal.loop-index-preserved
loop-index-preserved c =
    c.loop-index.invariant
    ∙ inputs_step c.args.sizes.now c.args.inputs.now c.loop-index.index (view c.args.value.now) c.loop-index.given.items c.push.new.self.items c.index-inputs-index.result c.in_ok-input_in.field-0
    c.loop-index-test.true c.index-inputs-index.is c.in_ok-input_in.ensures.ok c.in_ok-push.ensures.items
