use Rattle.std.proofs.Common.{◌≡◌, IfOk, subst}
use Rattle.std.proofs.lemmas.Result.{IfOk-weaker}
use Rattle.lift_ir.specs.Terms.{push}
use Rattle.printed_form.specs.Arguments.{argument_view}
use Rattle.array_views.specs.Views.{view_in}
use Rattle.lowering.specs.Terms.{term_of}
use Rattle.item_emit.specs.Copies.{copy_arrays}
use Rattle.item_emit.specs.Inputs.{inputs_in, spell_in}
use Rattle.item_emit.specs.Scopes.{scope_of}
use Rattle.item_emit.proofs.Scopes.{let_stands}
use Rattle.item_emit.proofs.arguments.+argument.Goals as goal

pub returns-in_ok-value-in-LetArray : goal.returns-in_ok-value-in-LetArray
returns-in_ok-value-in-LetArray t c =
    let arrays = copy_arrays c.args.space in
    let spell = spell_in c.args.declared.now in
    let ins = inputs_in c.args.declared.now in
    let env = scope_of c.args.scope.now in
    let bound = view_in c.in_ok-value-in-LetArray.value in
    let count = subst (λ z. c.in_ok-array_count-in-LetArray.field-0 ≡ arrays.count (term_of z)) c.deref-in-LetArray.ensures c.in_ok-array_count-in-LetArray.ensures in
    let value = subst (λ z. bound ≡ argument_view arrays spell ins env c.args.first (term_of z)) c.deref-in-LetArray-2.ensures c.in_ok-value-in-LetArray.ensures in
    let body = subst (λ z. IfOk c.argument-in-LetArray-2.result (λ y. view_in y ≡ argument_view arrays spell ins (push bound env) c.in_ok-second-in-LetArray.second (term_of z))) c.deref-in-LetArray-3.ensures c.argument-in-LetArray-2.ensures in
    rw c.in-LetArray.is
    (IfOk-weaker c.argument-in-LetArray-2.result _ _
    (λ y h. let_stands arrays spell ins env c.args.first c.in_ok-array_count-in-LetArray.field-0 c.in_ok-second-in-LetArray.second (term_of c.in-LetArray.value.value) (term_of c.in-LetArray.body.value) bound (view_in y) count c.in_ok-second-in-LetArray.ensures value h)
    body)
