use Rattle.std.proofs.Common.{arith}
use Rattle.ndrange_machine.proofs.Rows.{get_within}
use Rattle.ndrange_machine.proofs.machine.Machine.stand_together.Goals.{else-one-count-via-then-one-count+else-other-count, else-one-count-via-else-one-count}
use Rattle.ndrange_machine.proofs.machine.Machine.stand_together.Goals as goal

pub returns-then-other-count : goal.returns-then-other-count
returns-then-other-count c = λ a b p q. c.stand_together.ensures a p b q

pub returns-else-one-count : goal.returns-else-one-count
returns-else-one-count c = λ a b p q.
    let one = get_within c.args.self.now.items c.args.one a p in
    let other = get_within c.args.self.now.items c.args.other b q in
    let n = c.count-count.ensures in
    elim c.else-one-count.branch [
      | else-one-count-via-then-one-count+else-other-count w ↦ absurd (omega (arith, n, one, other, w.if-other-count.false))
      | else-one-count-via-else-one-count w ↦ absurd (omega (arith, n, one, other, w.if-one-count.false))
    ]
