use Rattle.std.proofs.Common.{◌≡◌, IfOk, option_map, subst₂, ap, ◌∙◌}
use Rattle.array_views.specs.Counts.{count_of}
use Rattle.lift_ir.specs.Lowering.{element_ty}
use Rattle.lift_ir.specs.Terms.{LetElement, push}
use Rattle.lift_tree.specs.Types.{ty_of}
use Rattle.printed_form.specs.Counts.{more, held_count, let_variables}
use Rattle.printed_form.specs.Printer.{sign_exprs}
use Rattle.printed_form.specs.Views.{View, held_view}
use Rattle.lowering.specs.Terms.{term_of}
use Rattle.item_emit.specs.Parts.{expr_of}
use Rattle.item_emit.specs.Scopes.{scope_of}
use Rattle.item_emit.proofs.expressions.+expressions.Goals as goal

pub component-returns-in-LetElement : goal.component-returns-in-LetElement
component-returns-in-LetElement t c = rw c.in-LetElement.is (subst₂ (λ v b. IfOk c.bound.result (λ e. option_map expr_of e ≡ sign_exprs (scope_of c.args.scope.now) (count_of c.args.first) (LetElement (element_ty (ty_of c.in-LetElement.ty)) (term_of v) (term_of b)) c.args.choices)) c.deref-in-LetElement.ensures c.deref-in-LetElement-2.ensures c.bound.ensures)

pub bound-returns : goal.bound-returns
bound-returns t c =
    let ty = element_ty (ty_of c.args.ty.now) in
    let lets : count_of c.in_ok-variable.variable ≡ more (count_of c.args.first) (let_variables (term_of c.args.value.now)) = c.in_ok-variable.ensures ∙ ap (more (count_of c.args.first)) c.in_ok-let_variables.ensures in
    let next : count_of c.in_ok-next.next ≡ more (more (count_of c.args.first) (let_variables (term_of c.args.value.now))) (held_count ty) =
    c.in_ok-next.ensures ∙ ap (more (count_of c.in_ok-variable.variable)) c.in_ok-held_count.ensures ∙ ap (λ n. more n (held_count ty)) lets in
    subst₂ (λ (v : View) n. IfOk c.component.result (λ e. option_map expr_of e ≡ sign_exprs (push v (scope_of c.args.scope.now)) n (term_of c.args.body.now) c.args.choices))
    (c.in_ok-held.ensures ∙ ap (held_view ty) lets) next c.component.ensures
