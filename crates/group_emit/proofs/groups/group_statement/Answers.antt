use Rattle.std.proofs.Common.{◌≡◌, ◌∙◌}
use Rattle.std.proofs.lemmas.Result.{IfOk-weaker}
use Rattle.lift_tree.specs.declared.term.Dimension.TheVariants.{X}
use Rattle.kernel_tree.specs.Tree.{formula_of}
use Rattle.printed_form.specs.Counts.{no_variables}
use Rattle.printed_form.specs.MapForms as map_forms
use Rattle.lowering.specs.Terms.{kind_of, load_set_of, map_of, term_of}
use Rattle.group_form.specs.Printer as printer
use Rattle.array_views.specs.Views.{view_in}
use Rattle.item_emit.specs.Blocks.{code_in}
use Rattle.item_emit.specs.Scopes.{scope_of}
use Rattle.item_emit.specs.declared.block.Block.{Block}
use Rattle.group_emit.specs.Settings.{fence_in, forms_in, inputs_of, spell_of}
use Rattle.group_emit.proofs.Written.{over_groups}
use Rattle.group_emit.proofs.groups.group_statement.Goals as goal

pub returns : goal.returns
returns c =
    let s = c.args.setting.now in
    let m = c.args.map.now in
    IfOk-weaker c.statement_over_groups.result
    (λ (b : Block). code_in b ≡ map_forms.statement_over_groups X c.is_over_one-once.result (formula_of c.in_ok-length.length) (code_in c.in_ok-turn.turn))
    (λ (b : Block). code_in b ≡ printer.print_groups (spell_of s) (forms_in s) (inputs_of s) (fence_in s) (scope_of c.args.scope.now) (map_of m) (view_in c.args.target.now))
    (λ b h. h ∙ over_groups (spell_of s) (forms_in s) (inputs_of s) (fence_in s) 0 (scope_of c.args.scope.now) (record { locals = 0; privates = 0; variables = no_variables; phases = 0 })
    (kind_of m.kind) m.length (load_set_of m.loads) (term_of m.array) (term_of m.body) (view_in c.args.target.now)
    _ _ _ _ _ _ _ _ c.is_over_one-once.ensures c.turn_over_groups-turn.ensures c.in_ok-element.ensures c.in_ok-element-2.ensures c.in_ok-target.ensures
    c.depth_over_groups-depth.ensures c.in_ok-turn.ensures c.in_ok-length.ensures)
    c.statement_over_groups.ensures
