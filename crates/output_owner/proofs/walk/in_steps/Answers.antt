use Rattle.std.proofs.Common.{arith}
use Rattle.lift_ir.specs.AtLaunch.{length_at, ty_at}
use Rattle.lift_ir.specs.Types.{size}
use Rattle.lift_tree.specs.Types.{ty_of}
use Rattle.launch_lengths.specs.Bases.{bases_of}
use Rattle.output_owner.proofs.Rows.{told_strided}
use Rattle.output_owner.proofs.walk.in_steps.Goals as goal

pub returns-then-step-eq0 : goal.returns-then-step-eq0
returns-then-step-eq0 c = rw c.in-Array.is (λ h is. let some = is.0 in let none = c.if-step-eq0.true in absurd (omega arith))

pub returns-else-step-eq0 : goal.returns-else-step-eq0
returns-else-step-eq0 c =
    let bases = bases_of c.args.names.now c.args.sizes.now in
    rw c.in-Array.is
    (λ h is. told_strided (length_at bases c.in-Array.count) c.args.step (size (ty_at bases (ty_of c.in-Array.element.value))) c.args.number c.length_of-count.result c.scalars.result c.moved.result
    c.length_of-count.ensures (rw c.deref.ensures at c.scalars.ensures) c.moved.ensures is.1 h.few h.below)
