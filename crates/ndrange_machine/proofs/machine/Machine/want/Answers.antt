use Rattle.std.proofs.Common.{arith}
use Rattle.ndrange_machine.proofs.Rows.{get_within}
use Rattle.ndrange_machine.proofs.machine.Machine.want.Goals as goal

pub returns-else-item-count : goal.returns-else-item-count
returns-else-item-count c = λ it e.
    let lt = get_within c.args.self.now.items c.args.item it e in
    absurd (omega (arith, lt, c.count.ensures, c.if-item-count.false))
