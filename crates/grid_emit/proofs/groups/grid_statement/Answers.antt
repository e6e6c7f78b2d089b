use Rattle.std.proofs.Common.{◌≡◌, ◌∙◌}
use Rattle.std.proofs.lemmas.Result.{IfOk-weaker}
use Rattle.kernel_tree.specs.declared.tree.Dimension.TheVariants.{Y}
use Rattle.kernel_tree.specs.Code.{FromGroupId, ByGroupCount}
use Rattle.kernel_tree.specs.Tree.{formula_of}
use Rattle.printed_form.specs.MapForms.{form_over_groups, statement_of}
use Rattle.lowering.specs.Terms.{kind_of, load_set_of, map_of, term_of}
use Rattle.group_form.specs.GridPrinter.{print_grid}
use Rattle.array_views.specs.Views.{view_in}
use Rattle.item_emit.specs.Blocks.{code_in}
use Rattle.item_emit.specs.Scopes.{scope_of}
use Rattle.item_emit.specs.declared.block.Block.{Block}
use Rattle.group_emit.specs.Settings.{fence_in, inputs_of, spell_of}
use Rattle.grid_emit.specs.Settings.{grid_forms_in}
use Rattle.grid_emit.proofs.Written.{over_rows}
use Rattle.grid_emit.proofs.groups.grid_statement.Goals as goal

pub returns : goal.returns
returns c =
    let s = c.args.setting.now in
    let m = c.args.map.now in
    IfOk-weaker c.statement_over_groups.result
    (λ (b : Block). code_in b ≡ statement_of (form_over_groups c.is_over_one-once.result) (FromGroupId Y) (ByGroupCount Y) (formula_of c.in_ok-length.length) (code_in c.in_ok-turn.turn))
    (λ (b : Block). code_in b ≡ print_grid (spell_of s) (grid_forms_in s) (inputs_of s) (fence_in s) (scope_of c.args.scope.now) (map_of m) (view_in c.args.target.now))
    (λ b h. h ∙ over_rows (spell_of s) (grid_forms_in s) (inputs_of s) (fence_in s) (scope_of c.args.scope.now)
    (kind_of m.kind) m.length (load_set_of m.loads) (term_of m.array) (term_of m.body) (view_in c.args.target.now)
    _ _ _ _ _ _ _ _ c.is_over_one-once.ensures c.turn_over_groups-turn.ensures c.in_ok-array.ensures c.in_ok-element.ensures c.in_ok-target.ensures
    c.in_ok-depth.ensures c.in_ok-turn.ensures c.in_ok-length.ensures)
    c.statement_over_groups.ensures
