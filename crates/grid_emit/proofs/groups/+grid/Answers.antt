use Rattle.std.proofs.Common.{◌≡◌, IfOk, ap, subst, subst₂}
use Rattle.group_form.specs.GridPrinter.{print_grid}
use Rattle.array_views.specs.Views.{view_in}
use Rattle.lowering.specs.Terms.{map_of, term_of}
use Rattle.item_emit.specs.Blocks.{code_in}
use Rattle.item_emit.specs.Scopes.{scope_of}
use Rattle.group_emit.specs.Settings.{fence_in, inputs_of, spell_of}
use Rattle.grid_emit.specs.Settings.{grid_forms_in}
use Rattle.grid_emit.proofs.groups.+grid.Goals as goal

pub returns-in_ok-target-in-Reshape : goal.returns-in_ok-target-in-Reshape
returns-in_ok-target-in-Reshape t c = rw c.in-Reshape.is (subst₂ (λ a w. IfOk c.grid.result (λ b. code_in b ≡ print_grid (spell_of c.args.setting.now) (grid_forms_in c.args.setting.now) (inputs_of c.args.setting.now) (fence_in c.args.setting.now) (scope_of c.args.scope.now) a w))
    (ap term_of c.deref.ensures) c.in_ok-target-in-Reshape.ensures.view c.grid.ensures)

pub returns-in-Map : goal.returns-in-Map
returns-in-Map t c = rw c.in-Map.is (subst (λ m. IfOk c.grid_statement.result (λ b. code_in b ≡ print_grid (spell_of c.args.setting.now) (grid_forms_in c.args.setting.now) (inputs_of c.args.setting.now) (fence_in c.args.setting.now) (scope_of c.args.scope.now) (map_of m) (view_in c.args.target.now)))
    c.deref-in-Map.ensures c.grid_statement.ensures)
