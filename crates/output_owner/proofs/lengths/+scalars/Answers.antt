use Rattle.lift_ir.specs.AtLaunch.{length_at, ty_at}
use Rattle.lift_ir.specs.Types.{size}
use Rattle.lift_tree.specs.Types.{ty_of}
use Rattle.launch_lengths.specs.Bases.{bases_of}
use Rattle.output_owner.proofs.Products.{word_product}
use Rattle.output_owner.proofs.lengths.+scalars.Goals as goal

pub returns-in-Array : goal.returns-in-Array
returns-in-Array t c =
    let bases = bases_of c.args.names.now c.args.sizes.now in
    rw c.in-Array.is
    (word_product (length_at bases c.in-Array.length) (size (ty_at bases (ty_of c.in-Array.element.value))) c.length_of-length.result c.scalars.result c.length_of-length.ensures (rw c.deref.ensures at c.scalars.ensures))
