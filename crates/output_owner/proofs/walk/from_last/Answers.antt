use Rattle.lift_ir.specs.AtLaunch.{length_at, ty_at}
use Rattle.lift_ir.specs.Types.{size}
use Rattle.lift_tree.specs.Types.{ty_of}
use Rattle.launch_lengths.specs.Bases.{bases_of}
use Rattle.output_owner.proofs.Rows.{told_turned}
use Rattle.output_owner.proofs.walk.from_last.Goals as goal

pub returns-in-Array : goal.returns-in-Array
returns-in-Array c =
    let bases = bases_of c.args.names.now c.args.sizes.now in
    rw c.in-Array.is
    (λ h. told_turned (length_at bases c.in-Array.count) (size (ty_at bases (ty_of c.in-Array.element.value))) c.args.number c.length_of-count.result c.scalars.result c.turned.result
    c.length_of-count.ensures (rw c.deref.ensures at c.scalars.ensures) c.turned.ensures h.few h.below)
