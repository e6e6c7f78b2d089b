use Rattle.std.proofs.Common.{◌∙◌, ap, sym}
use Rattle.kernel_tree.specs.Formula.{value}
use Rattle.kernel_tree.specs.Tree.{formula_of}
use Rattle.ndrange_machine.specs.Known.{variables}
use Rattle.ndrange_machine.proofs.items.Items.leaf.Goals as goal

pub returns : goal.returns
returns c = λ it e ids x sizes is.
    let formula = formula_of c.args.e.now in
    ap (λ z. value ids (variables z) it.vars formula) (sym (c.turns.ensures it e))
    ∙ ap (λ z. value ids (variables c.turns.result.now) (record { words = z; vectors = it.vars.vectors }) formula) (sym (c.words.ensures it e))
    ∙ c.leaf_of.ensures ids it.vars.vectors x (sizes ∙ sym (c.deref.ensures.value ∙ ap (λ v. v.sizes) c.launch.view_is)) is
