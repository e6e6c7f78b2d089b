use Rattle.std.proofs.Common.{◌∙◌, ◌<◌, ap, subst, sym, arith}
use Rattle.kernel_tree.specs.Launch.{Launch, group_size, item_count}
use Rattle.kernel_tree.specs.Numbering.{member_at}
use Rattle.enabled_events.specs.Grids.{laid}
use Rattle.ndrange_machine.specs.Takes.{PassesOne}
use Rattle.ndrange_machine.proofs.Grids.{member_there}
use Rattle.ndrange_machine.proofs.Passing.{passes_none, passes_more, passes_group}
use Rattle.ndrange_machine.proofs.machine.Machine.pass_group.Goals as goal

pub loop-number-init : goal.loop-number-init
loop-number-init c = passes_none c.args.self.now c.args.group

pub pass-requires : goal.pass-requires
pass-requires c =
    let m = c.args.self.now in
    let g = c.args.group in
    let n = c.loop-number.number in
    let other = c.member.ensures ∙ ap (λ z. member_at (laid z) g n) c.grid-grid.ensures in
    let size = c.group_size-number-end.ensures ∙ ap (λ z. group_size (laid z)) c.grid-grid.ensures in
    let low = c.loop-number-test.true in
    subst (λ j. j < item_count c.loop-number.self.launch) (sym other)
    (subst (λ (z : Launch). member_at m.launch g n < item_count z) (sym c.loop-number.invariant.launch) (member_there m g c.requires n (omega arith)))

pub loop-number-preserved : goal.loop-number-preserved
loop-number-preserved c =
    let m = c.args.self.now in
    let g = c.args.group in
    let n = c.loop-number.number in
    let other = c.member.ensures ∙ ap (λ z. member_at (laid z) g n) c.grid-grid.ensures in
    let size = c.group_size-number-end.ensures ∙ ap (λ z. group_size (laid z)) c.grid-grid.ensures in
    let low = c.loop-number-test.true in
    passes_more m g c.requires c.loop-number.self c.pass.new.self n (omega arith) c.loop-number.invariant (subst (PassesOne c.loop-number.self c.pass.new.self) other c.pass.ensures)

pub returns : goal.returns
returns c =
    let size = c.group_size-number-end.ensures ∙ ap (λ z. group_size (laid z)) c.grid-grid.ensures in
    let far = c.loop-number-test.false in
    let up = c.loop-number.auto.number-end in
    passes_group c.args.self.now c.args.group c.requires c.loop-number.self c.loop-number.number (omega arith) c.loop-number.invariant
