use Rattle.std.proofs.Common.{◌≡◌, ◌∙◌, ap, sym, length, true, false, Some, arith}
use Rattle.std.specs.Prelude.{slice_index_or}
use Rattle.std.proofs.lemmas.List.{get_or_read}
use Rattle.kernel_tree.specs.declared.events.Event.TheVariants.{Release}
use Rattle.kernel_tree.specs.Launch.{group_of}
use Rattle.enabled_events.specs.Grids.{laid}
use Rattle.enabled_events.specs.Listed.{Flags}
use Rattle.enabled_events.proofs.Counts.{is_step, is_release}
use Rattle.enabled_events.proofs.ready.Ready.event_of.Goals as goal

pub returns-then-index : goal.returns-then-index
returns-then-index c =
    let v = c.args.self.now in
    let r = c.self.inside in
    let items = ap (λ (w : Flags). w.items) c.self.view_is in
    let n = ap length items in
    let within = c.requires.within in
    let read : slice_index_or v.items c.args.place false ≡ true = ap (λ xs. slice_index_or xs c.args.place false) (sym items) ∙ sym (get_or_read r.items.items c.args.place _ (omega arith) c.index.ensures false) ∙ c.if-index.true in
    c.requires.is ∙ ap Some (is_step v.grid v.items v.groups c.args.place c.requires.event c.requires.there read)

pub returns-else-index : goal.returns-else-index
returns-else-index c =
    let v = c.args.self.now in
    let r = c.self.inside in
    let items = ap (λ (w : Flags). w.items) c.self.view_is in
    let n = ap length items in
    let within = c.requires.within in
    let read : slice_index_or v.items c.args.place false ≡ false = ap (λ xs. slice_index_or xs c.args.place false) (sym items) ∙ sym (get_or_read r.items.items c.args.place _ (omega arith) c.index.ensures false) ∙ c.if-index.false in
    c.requires.is ∙ ap Some (is_release v.grid v.items v.groups c.args.place c.requires.event c.requires.there read ∙ ap (λ (w : Flags). Release (group_of (laid w.grid) c.args.place)) (sym c.self.view_is) ∙ ap Release (sym c.group_of.ensures))
