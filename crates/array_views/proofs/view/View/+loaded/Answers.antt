use Rattle.std.proofs.Common.{sym, ap, ◌∙◌}
use Rattle.std.proofs.lemmas.Result.{IfOk-weaker}
use Rattle.lift_ir.specs.Terms.{Each}
use Rattle.printed_form.specs.Counts.{more, load_count}
use Rattle.printed_form.specs.Views.{loaded_view}
use Rattle.array_views.specs.Counts.{count_of}
use Rattle.array_views.specs.Views.{loads_of, view_in}
use Rattle.array_views.proofs.Loads.{each_side}
use Rattle.array_views.proofs.view.View.+loaded.Goals as goal

pub returns-in_ok-b-in-Each-2 : goal.returns-in_ok-b-in-Each-2
returns-in_ok-b-in-Each-2 t c =
    let x = view_in c.args.self.now in
    let n = count_of c.args.first in
    let m = count_of c.in_ok-more-in-Each.field-0 in
    let l = c.deref.result.now in
    let r = c.deref-in-Each.result.now in
    let at = c.in_ok-more-in-Each.ensures ∙ ap (more n) (c.in_ok-count-in-Each.ensures ∙ ap (λ z. load_count (loads_of z)) (c.deref-in-Each-2.ensures ∙ sym c.deref.ensures)) in
    let told = ap (λ z. loaded_view (Each (loads_of z) (loads_of r)) x n) c.deref.ensures ∙ ap (λ z. loaded_view (Each (loads_of c.in-Each.left.value) (loads_of z)) x n) c.deref-in-Each.ensures in
    IfOk-weaker c.both.result _ _
    (λ v e. e
    ∙ each_side (loads_of l) (loads_of r) x (view_in c.in_ok-component-in-Each.field-0) (view_in c.in_ok-b-in-Each.b) (view_in c.in_ok-a-in-Each.a) (view_in c.in_ok-b-in-Each-2.b) n m
    c.in_ok-component-in-Each.ensures.view c.in_ok-b-in-Each.ensures.view c.in_ok-a-in-Each.ensures c.in_ok-b-in-Each-2.ensures at
    ∙ told
    ∙ ap (λ z. loaded_view (loads_of z) x n) (sym c.in-Each.is))
    c.both.ensures.view
