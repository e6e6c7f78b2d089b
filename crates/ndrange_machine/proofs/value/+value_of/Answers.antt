use Rattle.std.proofs.Common.{◌≡◌, ◌∙◌, Some, ap, refl, sym}
use Rattle.std.specs.Prelude.{map}
use Rattle.kernel_tree.specs.Formula.{operate, value, with_both}
use Rattle.kernel_tree.specs.Tree.{formula_of}
use Rattle.ndrange_machine.specs.Known.{known, variables, four_of, vars_of}
use Rattle.ndrange_machine.proofs.value.+value_of.Goals.{in-Some, in-None+in_ok-x-in-None, in-Some-leaf_of, in-None-leaf_of+in_ok-y-in-None-leaf_of}
use Rattle.ndrange_machine.proofs.value.+value_of.Goals as goal

pub returns-after-leaf_of-2 : goal.returns-after-leaf_of-2
returns-after-leaf_of-2 t c =
    let ids = known c.args.ids.now c.args.sizes.now in
    let vectors = map four_of c.args.vectors.now in
    let vars = vars_of c.args.words.now c.args.vectors.now in
    let loops = variables c.args.turns.now in
    let a = c.in-Binary.a.value in
    let b = c.in-Binary.b.value in
    let x = c.match-leaf_of.x in
    let y = c.match-leaf_of-2.y in
    let x_is : value ids loops vars (formula_of a) ≡ Some x =
    elim c.match-leaf_of.branch as (λ v. value ids loops vars (formula_of a) ≡ Some x) [
      | in-Some w ↦ ap (λ z. value ids loops vars (formula_of z)) (sym c.deref.ensures) ∙ c.leaf_of.ensures ids vectors x refl (w.in-Some.is ∙ ap Some (sym w.x-is))
      | in-None+in_ok-x-in-None w ↦ ap (λ z. value ids loops vars (formula_of z)) (sym w.deref-in-None.ensures) ∙ sym w.in_ok-x-in-None.ensures ∙ ap Some (sym w.x-is)
    ] in
    let y_is : value ids loops vars (formula_of b) ≡ Some y =
    elim c.match-leaf_of-2.branch as (λ v. value ids loops vars (formula_of b) ≡ Some y) [
      | in-Some-leaf_of w ↦ ap (λ z. value ids loops vars (formula_of z)) (sym c.deref-in-Binary.ensures) ∙ c.leaf_of-in-Binary.ensures ids vectors y refl (w.in-Some-leaf_of.is ∙ ap Some (sym w.y-is))
      | in-None-leaf_of+in_ok-y-in-None-leaf_of w ↦ ap (λ z. value ids loops vars (formula_of z)) (sym w.deref-in-None-leaf_of.ensures) ∙ sym w.in_ok-y-in-None-leaf_of.ensures ∙ ap Some (sym w.y-is)
    ] in
    c.operate.ensures ∙ sym (ap (λ z. with_both (operate c.in-Binary.op) z (value ids loops vars (formula_of b))) x_is ∙ ap (λ z. with_both (operate c.in-Binary.op) (Some x) z) y_is) ∙ ap (λ z. value ids loops vars (formula_of z)) (sym c.in-Binary.is)
