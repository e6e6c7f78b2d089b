use Rattle.std.proofs.Common.{◌≡◌, ◌∙◌, Some, ap, refl, sym}
use Rattle.kernel_tree.specs.Formula.{operate, value, with_both}
use Rattle.kernel_tree.specs.Launch.{ids_of}
use Rattle.kernel_tree.specs.Tree.{formula_of}
use Rattle.ndrange_machine.specs.Known.{variables}
use Rattle.ndrange_machine.proofs.items.Items.value.Goals as goal

pub returns-in-Some-leaf : goal.returns-in-Some-leaf
returns-in-Some-leaf c = λ it e.
    let ids = ids_of c.args.launch.now c.args.item in
    let loops = variables it.turns in
    let vars = it.vars in
    let a = c.in-Binary.a.value in
    let b = c.in-Binary.b.value in
    let x = c.in-Some.x in
    let y = c.in-Some-leaf.y in
    let x_is : value ids loops vars (formula_of a) ≡ Some x = ap (λ z. value ids loops vars (formula_of z)) (sym c.deref.ensures) ∙ c.leaf.ensures it e ids x refl c.in-Some.is in
    let y_is : value ids loops vars (formula_of b) ≡ Some y = ap (λ z. value ids loops vars (formula_of z)) (sym c.deref-in-Some.ensures) ∙ c.leaf-in-Some.ensures it e ids y refl c.in-Some-leaf.is in
    c.operate.ensures ∙ sym (ap (λ z. with_both (operate c.in-Binary.op) z (value ids loops vars (formula_of b))) x_is ∙ ap (λ z. with_both (operate c.in-Binary.op) (Some x) z) y_is) ∙ ap (λ z. value ids loops vars (formula_of z)) (sym c.in-Binary.is)
