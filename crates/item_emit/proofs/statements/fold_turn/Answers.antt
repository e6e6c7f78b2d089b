use Rattle.std.proofs.Common.{◌∙◌}
use Rattle.lift_tree.specs.Types.{ty_of}
use Rattle.lift_ir.specs.Lowering.{element_ty}
use Rattle.array_views.specs.Counts.{count_of}
use Rattle.array_views.specs.Views.{view_in}
use Rattle.lowering.specs.Terms.{load_set_of, term_of}
use Rattle.item_emit.specs.Scopes.{scope_of}
use Rattle.item_emit.proofs.Written.{fold_turn}
use Rattle.item_emit.proofs.statements.fold_turn.Goals as goal

pub returns : goal.returns
returns c = c.in_ok-put_loaded.ensures ∙ fold_turn (scope_of c.args.scope.now) (load_set_of c.args.fold.now.loads) (element_ty (ty_of c.args.fold.now.accumulator)) (view_in c.args.element.now) (count_of c.args.accumulator) (term_of c.args.fold.now.body) _ _ _ _ _ _ _ _ _ _ _ c.new-turn.ensures c.in_ok-held_count.ensures c.in_ok-first_load.ensures c.in_ok-load_count.ensures c.in_ok-first_let.ensures c.in_ok-let_variables.ensures c.in_ok-temporary.ensures c.in_ok-held.ensures c.in_ok-bound.ensures c.in_ok-put_reassigned.ensures c.in_ok-put_element.ensures
