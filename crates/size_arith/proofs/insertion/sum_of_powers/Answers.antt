use Rattle.std.proofs.Common.{arith, sym, ◌∙◌}
use Rattle.size_arith.proofs.Steps.{power_sum_low, next_powers}
use Rattle.size_arith.proofs.insertion.sum_of_powers.Goals as goal

pub overflow_add-powers : goal.overflow_add-powers
overflow_add-powers c =
    let h = power_sum_low c.args.a.now c.args.b.now c.loop-i.powers c.loop-i.i (c.told-a ∙ sym c.told-b) c.requires.first c.requires.second c.loop-i.invariant in
    record { fits = omega arith }

pub loop-i-preserved : goal.loop-i-preserved
loop-i-preserved c =
    let a = c.told-a in
    let t = c.loop-i-test.true in
    next_powers c.args.a.now c.args.b.now c.loop-i.powers c.loop-i.i _ (omega arith) (c.told-a ∙ sym c.told-b) (omega arith) c.loop-i.invariant
