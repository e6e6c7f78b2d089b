use Rattle.std.proofs.Common.{◌≡◌, IfOk, ap, subst, subst₂}
use Rattle.group_form.specs.GridPrinter.{print_along_groups}
use Rattle.array_views.specs.Counts.{count_of}
use Rattle.array_views.specs.Views.{view_in}
use Rattle.lowering.specs.Terms.{map_of, term_of}
use Rattle.item_emit.specs.Blocks.{code_in}
use Rattle.item_emit.specs.Scopes.{scope_of}
use Rattle.group_emit.specs.Settings.{fence_in, inputs_of, spell_of}
use Rattle.grid_emit.specs.Settings.{grid_forms_in}
use Rattle.grid_emit.proofs.groups.+along_groups.Goals as goal

pub returns-in_ok-target-in-Reshape : goal.returns-in_ok-target-in-Reshape
returns-in_ok-target-in-Reshape t c = rw c.in-Reshape.is (subst₂ (λ a w. IfOk c.along_groups.result (λ b. code_in b ≡ print_along_groups (spell_of c.args.setting.now) (grid_forms_in c.args.setting.now) (inputs_of c.args.setting.now) (fence_in c.args.setting.now) c.args.row.now.depth (scope_of c.args.row.now.scope.now) (count_of c.args.row.now.variable) a w))
    (ap term_of c.deref.ensures) c.in_ok-target-in-Reshape.ensures.view c.along_groups.ensures)

pub returns-in-Map : goal.returns-in-Map
returns-in-Map t c = rw c.in-Map.is (subst (λ m. IfOk c.row_statement.result (λ b. code_in b ≡ print_along_groups (spell_of c.args.setting.now) (grid_forms_in c.args.setting.now) (inputs_of c.args.setting.now) (fence_in c.args.setting.now) c.args.row.now.depth (scope_of c.args.row.now.scope.now) (count_of c.args.row.now.variable) (map_of m) (view_in c.args.target.now)))
    c.deref-in-Map.ensures c.row_statement.ensures)
