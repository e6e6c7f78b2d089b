use Rattle.std.proofs.Common.{◌≡◌, OnOk, subst}
use Rattle.group_form.specs.GridPrinter.{print_along_row}
use Rattle.array_views.specs.Counts.{count_of}
use Rattle.array_views.specs.Views.{view_in}
use Rattle.lowering.specs.Terms.{map_of}
use Rattle.item_emit.specs.Blocks.{code_in}
use Rattle.item_emit.specs.Scopes.{scope_of}
use Rattle.group_emit.specs.Settings.{fence_in, inputs_of, spell_of}
use Rattle.grid_emit.specs.Settings.{grid_forms_in}
use Rattle.grid_emit.proofs.statements.+put_along_row.Goals as goal

pub returns-in-Map : goal.returns-in-Map
returns-in-Map t c = rw c.in-Map.is (subst (λ m. OnOk c.put_row_map.result (code_in c.put_row_map.new.block ≡ print_along_row (spell_of c.args.setting.now) (grid_forms_in c.args.setting.now) (inputs_of c.args.setting.now) (fence_in c.args.setting.now) c.args.site.now.depth (scope_of c.args.site.now.scope.now) c.args.site.now.used.locals c.args.site.now.used.privates (count_of c.args.site.now.used.variables) (map_of m) (view_in c.args.target.now) (code_in c.args.block.now)))
    c.deref-in-Map.ensures c.put_row_map.ensures)
