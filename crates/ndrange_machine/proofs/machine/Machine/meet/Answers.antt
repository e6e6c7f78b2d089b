use Rattle.std.proofs.Common.{◌≡◌, set, subst, refl}
use Rattle.ndrange_machine.specs.Groups.{TellsTogether}
use Rattle.ndrange_machine.proofs.Settling.{meets_together, meets_apart}
use Rattle.ndrange_machine.proofs.machine.Machine.meet.Goals as goal

pub returns-then-together-clause-meets : goal.returns-then-together-clause-meets
returns-then-together-clause-meets c =
    let m = c.args.self.now in
    let g = c.args.group in
    meets_together m g c.set_group.new.self (subst (TellsTogether m g) c.if-together.true c.are_together-together.ensures)
    (subst (λ t. c.set_group.new.self ≡ record { grid = m.ready.grid; items = m.ready.items; groups = set m.ready.groups g t }) c.if-together.true c.set_group.ensures)

pub returns-else-together-clause-meets : goal.returns-else-together-clause-meets
returns-else-together-clause-meets c =
    let m = c.args.self.now in
    let g = c.args.group in
    meets_apart m _ g c.have_ended.result c.set_group.new.self (subst (TellsTogether m g) c.if-together.false c.are_together-together.ensures)
    (subst (λ t. c.set_group.new.self ≡ record { grid = m.ready.grid; items = m.ready.items; groups = set m.ready.groups g t }) c.if-together.false c.set_group.ensures)
    (record { lines = refl; launch = refl; memory = refl; items = refl }) c.have_ended.ensures
