use Rattle.std.proofs.Common.{◌≡◌, ℕ, ◌≤◌, Bool, Some, length, ◌∙◌, ap, subst, arith}
use Rattle.std.specs.Prelude.{◌↔◌, slice_get, IsTrue}
use Rattle.kernel_tree.specs.Launch.{group_size}
use Rattle.kernel_tree.specs.Numbering.{member_at}
use Rattle.enabled_events.specs.Grids.{laid}
use Rattle.ndrange_machine.specs.declared.machine.Machine.{Machine}
use Rattle.ndrange_machine.specs.ItemView.{ItemView}
use Rattle.ndrange_machine.proofs.Settling.{tells_going, tells_over, over_more}
use Rattle.ndrange_machine.proofs.machine.Machine.have_ended.Goals as goal

abbrev Over : Machine → (item : ℕ) → Bool → Type 0
Over m item t = (a : ItemView) → slice_get m.items item ≡ Some a → IsTrue t ↔ length m.lines.items ≤ a.line

pub loop-number-preserved : goal.loop-number-preserved
loop-number-preserved c =
    let m = c.args.self.now in
    let g = c.args.group in
    let n = c.loop-number.number in
    let other = c.member.ensures ∙ ap (λ z. member_at (laid z) g n) c.grid-grid.ensures in
    over_more m g c.requires n c.loop-number.invariant
    (subst (Over m (member_at m.launch g n)) c.if-not-has_ended.false (subst (λ j. Over m j c.has_ended.result) other c.has_ended.ensures))

pub returns-then-not-has_ended : goal.returns-then-not-has_ended
returns-then-not-has_ended c =
    let m = c.args.self.now in
    let g = c.args.group in
    let n = c.loop-number.number in
    let other = c.member.ensures ∙ ap (λ z. member_at (laid z) g n) c.grid-grid.ensures in
    let size = c.group_size-number-end.ensures ∙ ap (λ z. group_size (laid z)) c.grid-grid.ensures in
    let low = c.loop-number-test.true in
    tells_going m g c.requires n (omega arith)
    (subst (Over m (member_at m.launch g n)) c.if-not-has_ended.true (subst (λ j. Over m j c.has_ended.result) other c.has_ended.ensures))

pub returns : goal.returns
returns c =
    let size = c.group_size-number-end.ensures ∙ ap (λ z. group_size (laid z)) c.grid-grid.ensures in
    let far = c.loop-number-test.false in
    tells_over c.args.self.now c.args.group c.requires c.loop-number.number (omega arith) c.loop-number.invariant
