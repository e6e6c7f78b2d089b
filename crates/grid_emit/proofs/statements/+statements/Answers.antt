use Rattle.std.proofs.Common.{◌≡◌, List, OnOk, ap, subst, subst₂}
use Rattle.size_arith.specs.declared.poly.Monomial.{Monomial}
use Rattle.group_form.specs.GridPrinter.{print_grid_written}
use Rattle.array_views.specs.Views.{view_in}
use Rattle.lowering.specs.Terms.{kind_of, load_set_of, map_of, term_of}
use Rattle.item_emit.specs.Blocks.{code_in}
use Rattle.item_emit.specs.Scopes.{scope_of}
use Rattle.group_emit.specs.Settings.{fence_in, inputs_of, spell_of}
use Rattle.group_emit.specs.Used.{used_of}
use Rattle.grid_emit.specs.Settings.{grid_forms_in}
use Rattle.grid_emit.proofs.Written.{argument_let, written_let, written_map}
use Rattle.grid_emit.proofs.statements.+statements.Goals as goal

pub put_argument_let-returns : goal.put_argument_let-returns
put_argument_let-returns t c = subst (λ u. OnOk c.put_argument-2.result (code_in c.put_argument-2.new.block ≡ u))
    (argument_let {A = List Monomial} (spell_of c.args.setting.now) (grid_forms_in c.args.setting.now) (inputs_of c.args.setting.now) (fence_in c.args.setting.now) c.args.site.now.depth (scope_of c.args.site.now.scope.now) (used_of c.args.site.now.used) (term_of c.args.value.now) (term_of c.args.body.now) (code_in c.args.block.now) _ _ _ c.in_ok-bound.ensures c.in_ok-after.ensures c.in_ok-put_argument.ensures)
    c.put_argument-2.ensures

pub put_let-returns : goal.put_let-returns
put_let-returns t c = subst (λ u. OnOk c.put_argument.result (code_in c.put_argument.new.block ≡ u))
    (written_let {A = List Monomial} (spell_of c.args.setting.now) (grid_forms_in c.args.setting.now) (inputs_of c.args.setting.now) (fence_in c.args.setting.now) c.args.site.now.depth (scope_of c.args.site.now.scope.now) (used_of c.args.site.now.used) (term_of c.args.value.now) (term_of c.args.body.now) (view_in c.args.target.now) (code_in c.args.block.now) _ _ _ c.in_ok-bound.ensures c.in_ok-after.ensures c.in_ok-put_written.ensures)
    c.put_argument.ensures

pub put_map-returns : goal.put_map-returns
put_map-returns t c = subst (λ u. OnOk c.put_argument.result (code_in c.put_argument.new.block ≡ u))
    (written_map {A = List Monomial} (spell_of c.args.setting.now) (grid_forms_in c.args.setting.now) (inputs_of c.args.setting.now) (fence_in c.args.setting.now) c.args.site.now.depth (scope_of c.args.site.now.scope.now) (used_of c.args.site.now.used) (kind_of c.args.map.now.kind) c.args.map.now.length (load_set_of c.args.map.now.loads) (term_of c.args.map.now.array) (term_of c.args.map.now.body) (view_in c.args.target.now) (code_in c.args.block.now) _ _ _ _ c.in_ok-view.ensures c.in_ok-after.ensures c.in_ok-put_local_nest.ensures c.in_ok-put_barrier.ensures)
    c.put_argument.ensures

pub put_written-returns-in_ok-target-in-Reshape : goal.put_written-returns-in_ok-target-in-Reshape
put_written-returns-in_ok-target-in-Reshape t c = rw c.in-Reshape.is (subst₂ (λ a w. OnOk c.put_written.result (code_in c.put_written.new.block ≡ print_grid_written (spell_of c.args.setting.now) (grid_forms_in c.args.setting.now) (inputs_of c.args.setting.now) (fence_in c.args.setting.now) c.args.site.now.depth (scope_of c.args.site.now.scope.now) (used_of c.args.site.now.used) a w (code_in c.args.block.now)))
    (ap term_of c.deref.ensures) c.in_ok-target-in-Reshape.ensures.view c.put_written.ensures)

pub put_written-returns-in-Map : goal.put_written-returns-in-Map
put_written-returns-in-Map t c = rw c.in-Map.is (subst (λ m. OnOk c.put_map.result (code_in c.put_map.new.block ≡ print_grid_written (spell_of c.args.setting.now) (grid_forms_in c.args.setting.now) (inputs_of c.args.setting.now) (fence_in c.args.setting.now) c.args.site.now.depth (scope_of c.args.site.now.scope.now) (used_of c.args.site.now.used) (map_of m) (view_in c.args.target.now) (code_in c.args.block.now)))
    c.deref-in-Map.ensures c.put_map.ensures)
