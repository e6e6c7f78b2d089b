use Rattle.std.proofs.Common.{sym, ◌∙◌, arith}
use Rattle.size_arith.proofs.Quotients.{power_left, next_left}
use Rattle.size_arith.proofs.division.difference_of_powers.Goals as goal

pub overflow_sub-left : goal.overflow_sub-left
overflow_sub-left c = power_left c.args.powers.now c.args.others.now c.loop-i.left c.loop-i.i (c.told-powers ∙ sym c.told-others) c.requires c.loop-i.invariant

pub loop-i-preserved : goal.loop-i-preserved
loop-i-preserved c =
    let a = c.told-powers in
    let t = c.loop-i-test.true in
    next_left c.args.powers.now c.args.others.now c.loop-i.left c.loop-i.i _ (omega arith) (c.told-powers ∙ sym c.told-others) (omega arith) c.loop-i.invariant
