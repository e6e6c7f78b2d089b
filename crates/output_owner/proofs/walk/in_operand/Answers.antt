use Rattle.std.proofs.Common.{◌∙◌}
use Rattle.lift_tree.specs.Meaning.{product_at}
use Rattle.lift_tree.specs.Types.{ty_of}
use Rattle.launch_lengths.specs.Bases.{bases_of}
use Rattle.output_owner.proofs.Factors.{in_32_bits}
use Rattle.output_owner.proofs.walk.in_operand.Goals as goal

pub returns-in-Stride : goal.returns-in-Stride
returns-in-Stride c =
    let bases = bases_of c.args.names.now c.args.sizes.now in
    let b = ty_of c.args.operand.now in
    let k = c.args.number in
    let fs = c.in-Stride.step in
    let told = rw c.factors.ensures at c.product-step.ensures in
    let moved = rw told at c.in_steps.ensures in
    rw c.in-Stride.is
    (λ h is. let same = in_32_bits bases (product_at c.args.sizes.now fs) b k h is in moved h same.is_step ∙ same.number)
