use Rattle.std.proofs.Common.{refl}
use Rattle.std.proofs.lemmas.Result.{on_ok_weaker}
use Rattle.lowering.specs.Terms.{kind_of, load_set_of, map_of, term_of}
use Rattle.array_views.specs.Views.{view_in}
use Rattle.item_emit.specs.Blocks.{code_in}
use Rattle.item_emit.specs.Scopes.{scope_of}
use Rattle.group_emit.specs.Settings.{fence_in, inputs_of, spell_of}
use Rattle.group_form.specs.Form.{Used}
use Rattle.array_views.specs.Counts.{count_of}
use Rattle.grid_emit.specs.Settings.{grid_forms_in}
use Rattle.grid_emit.proofs.Written.{row_map}
use Rattle.grid_emit.proofs.statements.put_row_map.Goals as goal

pub returns : goal.returns
returns c =
    let s = c.args.setting.now in
    let p = c.args.site.now in
    let m = c.args.map.now in
    let used : Used = record { locals = p.used.locals; privates = p.used.privates; variables = count_of p.used.variables; phases = p.used.phases } in
    on_ok_weaker c.put_local_map.result
    (λ e. row_map (spell_of s) (grid_forms_in s) (inputs_of s) (fence_in s) p.depth (scope_of p.scope.now) used (kind_of m.kind) m.length (load_set_of m.loads) (term_of m.array) (term_of m.body) (map_of m) (view_in c.args.target.now) (code_in c.args.block.now) (code_in c.put_local_map.new.block) _ _ refl c.in_ok-array.ensures c.in_ok-after.ensures e)
    c.put_local_map.ensures
