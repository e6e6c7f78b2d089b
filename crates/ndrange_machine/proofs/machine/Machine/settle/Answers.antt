use Rattle.std.proofs.Common.{◌<◌, ◌∙◌, ap, length, refl, subst, sym}
use Rattle.enabled_events.specs.Listed.{Flags}
use Rattle.ndrange_machine.proofs.Grids.{group_there}
use Rattle.ndrange_machine.proofs.Telling.{going_at}
use Rattle.ndrange_machine.proofs.Settling.{settles_going, settles_some, settles_met}
use Rattle.ndrange_machine.proofs.machine.Machine.settle.Goals as goal

pub has_stopped-requires : goal.has_stopped-requires
has_stopped-requires c =
    let m = c.args.self.now in
    subst (λ n. c.group_of-group.result < n) (sym (ap (λ (v : Flags). length v.groups) c.set_item.ensures ∙ m.ready_groups)) (group_there m c.args.item c.group_of-group.result c.requires.there c.group_of-group.ensures)

pub meet-requires : goal.meet-requires
meet-requires c = group_there c.args.self.now c.args.item c.group_of-group.result c.requires.there c.group_of-group.ensures

pub returns-then-goes_on-clause-settles : goal.returns-then-goes_on-clause-settles
returns-then-goes_on-clause-settles c = settles_going c.flags_follow.ensures c.args.self.now c.args.item c.goes_on.result (going_at c.args.self.now c.args.item c.args.line c.goes_on.result c.requires.stands c.goes_on.ensures) c.if-goes_on.true

pub returns-then-has_stopped-clause-settles : goal.returns-then-has_stopped-clause-settles
returns-then-has_stopped-clause-settles c =
    settles_met c.flags_follow.ensures c.args.self.now c.args.item c.goes_on.result (going_at c.args.self.now c.args.item c.args.line c.goes_on.result c.requires.stands c.goes_on.ensures) c.if-goes_on.false c.set_item.new.self c.set_item.ensures c.group_of-group.result c.group_of-group.ensures c.has_stopped.result c.has_stopped.ensures c.if-has_stopped.true
    _ c.meet.new.self.ready c.meet.result (record { lines = refl; launch = refl; memory = refl; items = refl }) refl c.meet.ensures.meets

pub returns-else-has_stopped-clause-settles : goal.returns-else-has_stopped-clause-settles
returns-else-has_stopped-clause-settles c =
    settles_some c.flags_follow.ensures c.args.self.now c.args.item c.goes_on.result (going_at c.args.self.now c.args.item c.args.line c.goes_on.result c.requires.stands c.goes_on.ensures) c.if-goes_on.false c.set_item.new.self c.set_item.ensures c.group_of-group.result c.group_of-group.ensures c.has_stopped.result c.has_stopped.ensures c.if-has_stopped.false
