use Rattle.std.proofs.Common.{◌≡◌, true, false, List, OnOk, ap, subst, subst₂, ⊎_elim}
use Rattle.size_arith.specs.declared.poly.Monomial.{Monomial}
use Rattle.lift_tree.specs.Types.{ty_of}
use Rattle.lift_ir.specs.Lowering.{element_ty}
use Rattle.printed_form.specs.Printer.{print_written}
use Rattle.array_views.specs.Counts.{count_of}
use Rattle.array_views.specs.Views.{view_in}
use Rattle.lowering.specs.Terms.{fold_of, kind_of, load_set_of, map_of, term_of}
use Rattle.item_emit.specs.Blocks.{code_in}
use Rattle.item_emit.specs.Inputs.{inputs_in, spell_in}
use Rattle.item_emit.specs.Scopes.{scope_of}
use Rattle.item_emit.proofs.Written.{argument_both, argument_let, written_fold, written_let, written_map}
use Rattle.item_emit.proofs.statements.+statements.Goals as goal

pub put_argument_let-returns : goal.put_argument_let-returns
put_argument_let-returns t c = subst (λ u. OnOk c.put_argument-2.result (code_in c.put_argument-2.new.block ≡ u))
    (argument_let {A = List Monomial} (spell_in c.args.declared.now) (inputs_in c.args.declared.now) c.args.site.now.depth (scope_of c.args.site.now.scope.now) c.args.site.now.array (count_of c.args.site.now.variable) (term_of c.args.value.now) (term_of c.args.body.now) (code_in c.args.block.now) _ _ _ _ _ c.in_ok-bound.ensures c.in_ok-after.ensures.depth c.in_ok-after.ensures.array c.in_ok-after.ensures.variable c.in_ok-put_argument.ensures)
    c.put_argument-2.ensures

pub put_map-returns : goal.put_map-returns
put_map-returns t c = subst (λ u. OnOk c.put_argument.result (code_in c.put_argument.new.block ≡ u))
    (written_map {A = List Monomial} (spell_in c.args.declared.now) (inputs_in c.args.declared.now) c.args.site.now.depth (scope_of c.args.site.now.scope.now) c.args.site.now.array (count_of c.args.site.now.variable) (kind_of c.args.map.now.kind) c.args.map.now.length (load_set_of c.args.map.now.loads) (term_of c.args.map.now.array) (term_of c.args.map.now.body) (view_in c.args.target.now) (code_in c.args.block.now) _ _ _ _ _ _ _ _ _ _ _ c.in_ok-element.ensures c.in_ok-target.ensures (ap scope_of c.in_ok-after.ensures.scope) c.in_ok-after.ensures.depth c.in_ok-after.ensures.array c.in_ok-after.ensures.variable c.in_ok-turn.ensures c.in_ok-length.ensures c.start_of.ensures c.stride_of.ensures c.in_ok-put_loop.ensures)
    c.put_argument.ensures

pub put_fold-returns : goal.put_fold-returns
put_fold-returns t c = subst (λ u. OnOk c.put_argument.result (code_in c.put_argument.new.block ≡ u))
    (written_fold {A = List Monomial} (spell_in c.args.declared.now) (inputs_in c.args.declared.now) c.args.site.now.depth (scope_of c.args.site.now.scope.now) c.args.site.now.array (count_of c.args.site.now.variable) c.args.fold.now.length (load_set_of c.args.fold.now.loads) (element_ty (ty_of c.args.fold.now.accumulator)) (term_of c.args.fold.now.array) (term_of c.args.fold.now.start) (term_of c.args.fold.now.body) (view_in c.args.target.now) (code_in c.args.block.now) _ _ _ _ _ c.in_ok-element.ensures c.in_ok-variable_count.ensures c.in_ok-more.ensures c.in_ok-bound.ensures c.in_ok-put_fold_loop.ensures)
    c.put_argument.ensures

pub put_let_array-returns : goal.put_let_array-returns
put_let_array-returns t c = subst (λ u. OnOk c.put_argument.result (code_in c.put_argument.new.block ≡ u))
    (written_let {A = List Monomial} (spell_in c.args.declared.now) (inputs_in c.args.declared.now) c.args.site.now.depth (scope_of c.args.site.now.scope.now) c.args.site.now.array (count_of c.args.site.now.variable) (term_of c.args.value.now) (term_of c.args.body.now) (view_in c.args.target.now) (code_in c.args.block.now) _ _ _ _ _ c.in_ok-bound.ensures c.in_ok-after.ensures.depth c.in_ok-after.ensures.array c.in_ok-after.ensures.variable c.in_ok-put_written.ensures)
    c.put_argument.ensures

pub put_written-returns-in_ok-target-in-Reshape : goal.put_written-returns-in_ok-target-in-Reshape
put_written-returns-in_ok-target-in-Reshape t c = rw c.in-Reshape.is (subst₂ (λ a w. OnOk c.put_written.result (code_in c.put_written.new.block ≡ print_written (spell_in c.args.declared.now) (inputs_in c.args.declared.now) c.args.site.now.depth (scope_of c.args.site.now.scope.now) c.args.site.now.array (count_of c.args.site.now.variable) a w (code_in c.args.block.now)))
    (ap term_of c.deref-in-Reshape.ensures) c.in_ok-target-in-Reshape.ensures.view c.put_written.ensures)

pub put_written-returns-in-Map : goal.put_written-returns-in-Map
put_written-returns-in-Map t c = rw c.in-Map.is (subst (λ u. OnOk c.put_map.result (code_in c.put_map.new.block ≡ print_written (spell_in c.args.declared.now) (inputs_in c.args.declared.now) c.args.site.now.depth (scope_of c.args.site.now.scope.now) c.args.site.now.array (count_of c.args.site.now.variable) (map_of u) (view_in c.args.target.now) (code_in c.args.block.now)))
    c.deref-in-Map.ensures c.put_map.ensures)

pub put_written-returns-in-Fold : goal.put_written-returns-in-Fold
put_written-returns-in-Fold t c = rw c.in-Fold.is (subst (λ u. OnOk c.put_fold.result (code_in c.put_fold.new.block ≡ print_written (spell_in c.args.declared.now) (inputs_in c.args.declared.now) c.args.site.now.depth (scope_of c.args.site.now.scope.now) c.args.site.now.array (count_of c.args.site.now.variable) (fold_of u) (view_in c.args.target.now) (code_in c.args.block.now)))
    c.deref-in-Fold.ensures c.put_fold.ensures)

pub put_argument-returns-in_ok-put_argument-in-Pair : goal.put_argument-returns-in_ok-put_argument-in-Pair
put_argument-returns-in_ok-put_argument-in-Pair t c =
    ⊎_elim
    (λ e. rw e (subst (λ u. OnOk c.put_argument-in-Pair-2.result (code_in c.put_argument-in-Pair-2.new.block ≡ u))
    (argument_both {A = List Monomial} (spell_in c.args.declared.now) (inputs_in c.args.declared.now) c.args.site.now.depth (scope_of c.args.site.now.scope.now) c.args.site.now.array (count_of c.args.site.now.variable) false _ _ _ _ _ (code_in c.args.block.now) _ _ _ _ _ (ap term_of c.deref-in-Pair.ensures) (ap term_of c.deref-in-Pair-2.ensures) (ap term_of c.deref-in-Pair-3.ensures) (ap scope_of c.in_ok-after-in-Pair.ensures.scope) c.in_ok-after-in-Pair.ensures.depth c.in_ok-after-in-Pair.ensures.array c.in_ok-after-in-Pair.ensures.variable c.in_ok-put_argument-in-Pair.ensures)
    c.put_argument-in-Pair-2.ensures))
    (λ e. rw e (subst (λ u. OnOk c.put_argument-in-Pair-2.result (code_in c.put_argument-in-Pair-2.new.block ≡ u))
    (argument_both {A = List Monomial} (spell_in c.args.declared.now) (inputs_in c.args.declared.now) c.args.site.now.depth (scope_of c.args.site.now.scope.now) c.args.site.now.array (count_of c.args.site.now.variable) true _ _ _ _ _ (code_in c.args.block.now) _ _ _ _ _ (ap term_of c.deref-in-Pair.ensures) (ap term_of c.deref-in-Pair-2.ensures) (ap term_of c.deref-in-Pair-3.ensures) (ap scope_of c.in_ok-after-in-Pair.ensures.scope) c.in_ok-after-in-Pair.ensures.depth c.in_ok-after-in-Pair.ensures.array c.in_ok-after-in-Pair.ensures.variable c.in_ok-put_argument-in-Pair.ensures)
    c.put_argument-in-Pair-2.ensures))
    c.in-Pair.is
