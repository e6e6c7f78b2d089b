use Rattle.lowering.specs.Terms.{load_set_of, term_of}
use Rattle.array_views.specs.Views.{view_in}
use Rattle.item_emit.specs.Scopes.{scope_of}
use Rattle.group_emit.specs.Settings.{fence_in, inputs_of, spell_of}
use Rattle.grid_emit.specs.Settings.{grid_forms_in}
use Rattle.grid_emit.proofs.Written.{row_turn}
use Rattle.grid_emit.proofs.groups.row_turn.Goals as goal

pub returns : goal.returns
returns c =
    let s = c.args.setting.now in
    let m = c.args.map.now in
    row_turn (spell_of s) (grid_forms_in s) (inputs_of s) (fence_in s) c.args.depth (scope_of c.args.scope.now) (load_set_of m.loads) (view_in c.args.element.now) (term_of m.body) (view_in c.args.target.now) _ _ _ _ _ _ c.none.ensures c.none-2.ensures c.in_ok-bound.ensures c.in_ok-load_count.ensures c.in_ok-turn.ensures c.in_ok-put_loaded.ensures
