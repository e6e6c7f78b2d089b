use Rattle.std.proofs.Common.{◌≡◌, ◌∙◌, Some, None, ap, sym}
use Rattle.std.proofs.lemmas.Option.{slice_get_past}
use Rattle.std.specs.Prelude.{option_map, slice_get}
use Rattle.std.proofs.lemmas.Bool.{ltb-true, ltb-false}
use Rattle.ndrange_machine.specs.Flat.{item_at}
use Rattle.ndrange_machine.proofs.Flat.{got}
use Rattle.ndrange_machine.proofs.Rows.{get_or_is}
use Rattle.ndrange_machine.proofs.items.Items.line.Goals as goal

pub returns-in-Some : goal.returns-in-Some
returns-in-Some c =
    let x = c.self.inside in
    let j = c.args.item in
    let p = c.in-Some.place.now in
    let h = c.in-Some.ensures.lookup in
    let at : slice_get x.places.items j ≡ Some p = ap (λ z. slice_get z j) (sym c.deref.ensures.value) ∙ get_or_is c.deref.result.now j p (ltb-true j _ (sym h.0)) h.1 in
    sym (ap (option_map (λ it. it.line)) (got x c.args.self.now c.self.view_is j ∙ ap (option_map (item_at x j)) at))

pub returns-in-None : goal.returns-in-None
returns-in-None c =
    let x = c.self.inside in
    let j = c.args.item in
    let h = c.in-None.ensures.lookup in
    let none : slice_get x.places.items j ≡ None = ap (λ z. slice_get z j) (sym c.deref.ensures.value) ∙ slice_get_past c.deref.result.now j (ltb-false j _ (sym h.0)) in
    sym (ap (option_map (λ it. it.line)) (got x c.args.self.now c.self.view_is j ∙ ap (option_map (item_at x j)) none))
