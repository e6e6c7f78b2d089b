use Rattle.lift_ir.specs.AtLaunch.{length_at, ty_at}
use Rattle.lift_ir.specs.Types.{size}
use Rattle.lift_tree.specs.Types.{ty_of}
use Rattle.launch_lengths.specs.Bases.{bases_of}
use Rattle.output_owner.proofs.Rows.{told}
use Rattle.output_owner.proofs.walk.in_rows.Goals as goal

pub returns-in-Array-deref : goal.returns-in-Array-deref
returns-in-Array-deref c =
    let bases = bases_of c.args.names.now c.args.sizes.now in
    let row = rw c.deref.ensures at c.in-Array-deref.is in
    rw (c.in-Array.is, row)
    (λ h. told (length_at bases c.in-Array.count) (length_at bases c.in-Array-deref.width) (size (ty_at bases (ty_of c.in-Array-deref.element.value))) c.args.number
    c.length_of-count.result c.length_of-width.result c.scalars.result c.moved.result
    c.length_of-count.ensures c.length_of-width.ensures (rw c.deref-in-Array-deref.ensures at c.scalars.ensures) c.moved.ensures h.few h.below)
