use Rattle.std.proofs.Common.{◌≡◌, ℕ, Bool, Some, ◌∙◌, ap, subst, arith}
use Rattle.std.specs.Prelude.{◌↔◌, slice_get, IsTrue}
use Rattle.kernel_tree.specs.Launch.{group_size, first_item}
use Rattle.kernel_tree.specs.Numbering.{member_at}
use Rattle.enabled_events.specs.Grids.{laid}
use Rattle.ndrange_machine.specs.ItemView.{ItemView}
use Rattle.ndrange_machine.specs.Groups.{SamePlace}
use Rattle.ndrange_machine.specs.Takes.{IsAtBarrier}
use Rattle.ndrange_machine.specs.declared.machine.Machine.{Machine}
use Rattle.ndrange_machine.proofs.Settling.{tells_no_barrier, tells_apart, tells_together, alike_more}
use Rattle.ndrange_machine.proofs.machine.Machine.are_together.Goals as goal

abbrev Compares : Machine → (first item : ℕ) → Bool → Type 0
Compares m first item t = (a b : ItemView) → slice_get m.items first ≡ Some a → slice_get m.items item ≡ Some b → IsTrue t ↔ SamePlace a b

pub returns-then-not-is_at_barrier : goal.returns-then-not-is_at_barrier
returns-then-not-is_at_barrier c =
    let m = c.args.self.now in
    let first = c.first_of-first.ensures ∙ ap (λ z. first_item (laid z) c.args.group) c.grid-grid.ensures in
    tells_no_barrier m c.args.group c.requires (subst (IsAtBarrier m (first_item m.launch c.args.group)) c.if-not-is_at_barrier.true (subst (λ j. IsAtBarrier m j c.is_at_barrier.result) first c.is_at_barrier.ensures))

pub loop-number-preserved : goal.loop-number-preserved
loop-number-preserved c =
    let m = c.args.self.now in
    let g = c.args.group in
    let n = c.loop-number.number in
    let first = c.first_of-first.ensures ∙ ap (λ z. first_item (laid z) g) c.grid-grid.ensures in
    let other = c.member.ensures ∙ ap (λ z. member_at (laid z) g n) c.grid-grid.ensures in
    alike_more m g c.requires n c.loop-number.invariant
    (subst (Compares m (first_item m.launch g) (member_at m.launch g n)) c.if-not-stand_together.false (subst (λ j. Compares m (first_item m.launch g) j c.stand_together.result) other (subst (λ j. Compares m j c.member.result c.stand_together.result) first c.stand_together.ensures)))

pub returns-then-not-stand_together : goal.returns-then-not-stand_together
returns-then-not-stand_together c =
    let m = c.args.self.now in
    let g = c.args.group in
    let n = c.loop-number.number in
    let first = c.first_of-first.ensures ∙ ap (λ z. first_item (laid z) g) c.grid-grid.ensures in
    let other = c.member.ensures ∙ ap (λ z. member_at (laid z) g n) c.grid-grid.ensures in
    let size = c.group_size-number-end.ensures ∙ ap (λ z. group_size (laid z)) c.grid-grid.ensures in
    let low = c.loop-number-test.true in
    tells_apart m g c.requires n (omega arith)
    (subst (Compares m (first_item m.launch g) (member_at m.launch g n)) c.if-not-stand_together.true (subst (λ j. Compares m (first_item m.launch g) j c.stand_together.result) other (subst (λ j. Compares m j c.member.result c.stand_together.result) first c.stand_together.ensures)))

pub returns : goal.returns
returns c =
    let m = c.args.self.now in
    let g = c.args.group in
    let first = c.first_of-first.ensures ∙ ap (λ z. first_item (laid z) g) c.grid-grid.ensures in
    let size = c.group_size-number-end.ensures ∙ ap (λ z. group_size (laid z)) c.grid-grid.ensures in
    let far = c.loop-number-test.false in
    tells_together m g c.requires (subst (IsAtBarrier m (first_item m.launch g)) c.if-not-is_at_barrier.false (subst (λ j. IsAtBarrier m j c.is_at_barrier.result) first c.is_at_barrier.ensures))
    c.loop-number.number (omega arith) c.loop-number.invariant
