use Rattle.std.proofs.Common.{◌≡◌, ◌<◌, false, subst, map, replicate, length, ap, ◌∙◌, refl, sym, rules}
use Rattle.std.specs.Prelude.{slice_get}
use Rattle.std.proofs.lemmas.List.{length-replicate}
use Rattle.enabled_events.specs.Listed.{Flags}
use Rattle.ndrange_machine.specs.ItemView.{ItemView}
use Rattle.ndrange_machine.specs.Takes.{is_going}
use Rattle.ndrange_machine.proofs.Rows.{get_replicate}
use Rattle.kernel_tree.specs.Launch.{Launch, item_count, group_count, group_of}
use Rattle.kernel_tree.specs.Kernels.{kernel_of}
use Rattle.kernel_tree.specs.Device.{device_of, start_state}
use Rattle.enabled_events.specs.declared.grid.Grid.{Grid}
use Rattle.enabled_events.specs.Grids.{grid_of, laid}
use Rattle.ndrange_machine.specs.Changes.{start_view}
use Rattle.ndrange_machine.specs.Lines.{depth}
use Rattle.ndrange_machine.specs.Words.{AreFilled}
use Rattle.ndrange_machine.specs.Wants.{text_of}
use Rattle.ndrange_machine.proofs.Beginning.{begun, lengths_are}
use Rattle.ndrange_machine.proofs.machine.Machine.start.Goals as goal

pub returns : goal.returns
returns c =
    let k = kernel_of c.args.kernel in
    let l = c.args.launch in
    let given = c.args.cells in
    let grid : Grid = record { global = c.launch.inside.global; local = c.launch.inside.local } in
    let text = c.in_ok-lines.ensures in
    let rest : c.cells.inside.rest ≡ given.rest = ap (λ v. v.rest) c.cells.view_is in
    let memory = c.in_ok-stores.stores.memory in
    let locals = subst (λ (z : Launch). AreFilled memory.locals (group_count z) k.locals given.rest) c.launch.view_is c.in_ok-stores.ensures.locals in
    let privates = subst (λ (z : Launch). AreFilled memory.privates (item_count z) k.privates given.rest) c.launch.view_is c.in_ok-stores.ensures.privates in
    let items =
    c.in_ok-items.ensures
    ∙ ap (λ n. replicate n (start_view c.depth_of.result k.variables k.vectors c.cells.inside.rest)) c.item_count.ensures
    ∙ ap (λ n. replicate (item_count (laid grid)) (start_view n k.variables k.vectors c.cells.inside.rest)) (c.depth_of.ensures k.code (ap (map text_of) c.deref-2.ensures.value ∙ text))
    ∙ ap (λ w. replicate (item_count (laid grid)) (start_view (depth k.code) k.variables k.vectors w)) rest
    ∙ ap (λ (z : Launch). replicate (item_count z) (start_view (depth k.code) k.variables k.vectors given.rest)) c.launch.view_is in
    let marks =
    c.in_ok-stores.ensures.marks (device_of k l given) (start_state k given)
    (ap group_count c.launch.view_is)
    (lengths_are c.in_ok-stores.stores.memory.outs.items given.outs c.in_ok-stores.ensures.outs)
    (λ a. refl) in
    begun k l given _ c.in_ok-stores.ensures.ins c.in_ok-stores.ensures.outs locals privates c.args.kernel.in_grammar c.requires.may_start.whole text refl items marks c.begin.new.self c.begin.ensures.core c.begin.ensures.marks c.begin.ensures.flags

pub begin-requires : goal.begin-requires
begin-requires c =
    let grid : Grid = record { global = c.launch.inside.global; local = c.launch.inside.local } in
    let steps = c.steps_from-steps.result in
    record {
      stands = λ j it e. sym (ap (λ (v : ItemView). v.line) (get_replicate _ j (start_view _ _ _ _) it (ap (λ z. slice_get z j) (sym c.in_ok-items.ensures) ∙ e)));
      going = c.steps_from-steps.ensures ∙ ap (λ z. is_going (slice_get z 0)) c.deref.ensures.value;
      ready = c.in_ok-stores.ensures.ready ∙ ap (λ (z : Launch). record { grid = grid_of z; items = replicate (item_count z) steps; groups = replicate (group_count z) false }) c.launch.view_is;
    }

pub invariant_of-machine : goal.invariant_of-machine
invariant_of-machine c =
    let grid : Grid = record { global = c.launch.inside.global; local = c.launch.inside.local } in
    let launch = c.launch.view_is in
    let ready = c.in_ok-stores.ensures.ready in
    record {
      small = search rules;
      all_items = ap length c.in_ok-items.ensures ∙ length-replicate c.item_count.result (start_view _ _ _ _) ∙ c.item_count.ensures ∙ ap (λ (z : Launch). item_count z) launch;
      ready_grid = ap (λ (v : Flags). v.grid) ready ∙ ap grid_of launch;
      ready_items = ap (λ (v : Flags). length v.items) ready ∙ length-replicate (item_count (laid grid)) c.steps_from-steps.result ∙ ap (λ (z : Launch). item_count z) launch;
      ready_groups = ap (λ (v : Flags). length v.groups) ready ∙ length-replicate (group_count (laid grid)) false ∙ ap (λ (z : Launch). group_count z) launch;
      marked_groups = search rules;
      grouped = search rules;
      its_group = λ j lt. c.in_ok-stores.ensures.groups.each j (subst (λ (z : Launch). j < item_count z) (sym launch) lt) ∙ ap (λ (z : Launch). group_of z j) launch;
    }
