use Rattle.std.proofs.Common.{◌∙◌, ap, subst, arith}
use Rattle.kernel_tree.specs.Launch.{group_size}
use Rattle.kernel_tree.specs.Numbering.{member_at}
use Rattle.enabled_events.specs.Grids.{laid}
use Rattle.ndrange_machine.specs.Groups.{SetsFlag}
use Rattle.ndrange_machine.proofs.Settling.{set_none, set_more, refreshes}
use Rattle.ndrange_machine.proofs.machine.Machine.refresh.Goals as goal

pub loop-number-init : goal.loop-number-init
loop-number-init c = set_none c.args.self.now c.args.group

pub loop-number-preserved : goal.loop-number-preserved
loop-number-preserved c =
    let m = c.args.self.now in
    let g = c.args.group in
    let n = c.loop-number.number in
    let other = c.member.ensures ∙ ap (λ z. member_at (laid z) g n) c.grid-grid.ensures in
    let size = c.group_size-number-end.ensures ∙ ap (λ z. group_size (laid z)) c.grid-grid.ensures in
    let low = c.loop-number-test.true in
    set_more m c.loop-number.self c.set_flag.new.self g n c.requires (omega arith) c.loop-number.invariant c.set_flag.ensures.core c.set_flag.ensures.marks
    (subst (SetsFlag c.loop-number.self c.set_flag.new.self) other c.set_flag.ensures.flag)

pub returns-clause-flags : goal.returns-clause-flags
returns-clause-flags c =
    let m = c.args.self.now in
    let size = c.group_size-number-end.ensures ∙ ap (λ z. group_size (laid z)) c.grid-grid.ensures in
    let far = c.loop-number-test.false in
    let up = c.loop-number.auto.number-end in
    refreshes m c.loop-number.self c.args.group c.are_together-together.result c.set_group.new.self c.loop-number.number c.requires (omega arith)
    c.loop-number.invariant c.are_together-together.ensures c.set_group.ensures
