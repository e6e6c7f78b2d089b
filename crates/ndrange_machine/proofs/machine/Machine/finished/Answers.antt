use Rattle.std.proofs.Common.{◌≡◌, ◌∙◌, ℕ, ◌≤◌, Bool, Some, length, ap, subst, arith}
use Rattle.std.specs.Prelude.{◌↔◌, IsTrue, slice_get}
use Rattle.kernel_tree.specs.Launch.{item_count}
use Rattle.enabled_events.specs.Grids.{laid}
use Rattle.ndrange_machine.specs.ItemView.{ItemView}
use Rattle.ndrange_machine.specs.declared.machine.Machine.{Machine}
use Rattle.ndrange_machine.proofs.Standing.{ended_item, all_past, one_before}
use Rattle.ndrange_machine.proofs.machine.Machine.finished.Goals as goal

-- whether the item has ended
abbrev Over : Machine → (item : ℕ) → Bool → Type 0
Over m i b = (it : ItemView) → slice_get m.items i ≡ Some it → IsTrue b ↔ length m.lines.items ≤ it.line

pub loop-item-preserved : goal.loop-item-preserved
loop-item-preserved c =
    let m = c.args.self.now in
    let i = c.loop-item.item in
    ended_item m i (subst (Over m i) c.if-not-has_ended.false c.has_ended.ensures) c.loop-item.invariant

pub returns-then-not-has_ended : goal.returns-then-not-has_ended
returns-then-not-has_ended c = λ k l d es st.
    let m = c.args.self.now in
    let i = c.loop-item.item in
    let end = c.item_count-item-end.ensures ∙ ap (λ z. item_count (laid z)) c.grid.ensures ∙ ap item_count st.holds.launch in
    let low = c.loop-item-test.true in
    one_before k l d m _ st.holds i (omega arith) (subst (Over m i) c.if-not-has_ended.true c.has_ended.ensures)

pub returns : goal.returns
returns c = λ k l d es st.
    let end = c.item_count-item-end.ensures ∙ ap (λ z. item_count (laid z)) c.grid.ensures ∙ ap item_count st.holds.launch in
    let far = c.loop-item-test.false in
    all_past k l d c.args.self.now _ st.holds c.loop-item.item (omega arith) c.loop-item.invariant
