use Rattle.std.proofs.Common.{◌≡◌, OnOk, subst}
use Rattle.kernel_tree.specs.Tree.{formula_of}
use Rattle.lift_tree.specs.Types.{ty_of}
use Rattle.lift_ir.specs.Lowering.{element_ty}
use Rattle.array_views.specs.Counts.{count_of}
use Rattle.array_views.specs.Views.{view_in}
use Rattle.lowering.specs.Terms.{load_set_of, term_of}
use Rattle.item_emit.specs.Blocks.{code_in}
use Rattle.item_emit.specs.Scopes.{scope_of}
use Rattle.item_emit.proofs.Written.{fold_loop}
use Rattle.item_emit.proofs.statements.put_fold_loop.Goals as goal

pub returns : goal.returns
returns c = subst (λ u. OnOk c.put_bound.result (code_in c.put_bound.new.block ≡ u))
    (fold_loop (scope_of c.args.site.now.scope.now) (count_of c.args.site.now.variable) (element_ty (ty_of c.args.fold.now.accumulator)) (formula_of c.args.length) (term_of c.args.fold.now.start) (view_in c.args.target.now) (load_set_of c.args.fold.now.loads) (view_in c.args.element.now) (term_of c.args.fold.now.body) (code_in c.args.block.now) _ _ _ _ _ c.in_ok-let_variables.ensures c.in_ok-accumulator.ensures c.in_ok-turn.ensures c.in_ok-put_result.ensures c.in_ok-put_loop.ensures)
    c.put_bound.ensures
