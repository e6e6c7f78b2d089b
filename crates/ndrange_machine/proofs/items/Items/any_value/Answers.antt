use Rattle.std.proofs.Common.{◌∙◌, ap}
use Rattle.kernel_tree.specs.Formula.{value}
use Rattle.kernel_tree.specs.Launch.{ids_of}
use Rattle.kernel_tree.specs.Tree.{formula_of}
use Rattle.ndrange_machine.specs.Known.{known, variables, vars_of}
use Rattle.ndrange_machine.proofs.items.Items.any_value.Goals as goal

pub returns : goal.returns
returns c = λ it e.
    let formula = formula_of c.args.e.now in
    let turns = c.turns.result.now in
    let words = c.words.result.now in
    let vectors = c.vectors.result.now in
    let ids = ids_of c.args.launch.now c.args.item in
    c.value_of.ensures
    ∙ ap (λ z. value (known c.of_item.result z) (variables turns) (vars_of words vectors) formula) (c.deref.ensures.value ∙ ap (λ v. v.sizes) c.launch.view_is)
    ∙ ap (λ z. value z (variables turns) (vars_of words vectors) formula) c.of_item.ensures
    ∙ ap (λ z. value ids (variables z) (vars_of words vectors) formula) (c.turns.ensures it e)
    ∙ ap (λ z. value ids (variables it.turns) (vars_of z vectors) formula) (c.words.ensures it e)
    ∙ ap (λ z. value ids (variables it.turns) (record { words = it.vars.words; vectors = z }) formula) (c.vectors.ensures it e)
