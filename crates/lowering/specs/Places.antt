-- Where a term stands, as the Rust code holds it.
use Rattle.lift_ir.specs.Lowering as lowering
use Rattle.lowering.specs.declared.place.Place.{Place}
use Rattle.lowering.specs.declared.place.Place.TheVariants.{Written, Argument, Element}

-- the place that the Rust code names
abbrev pub place_of : Place → lowering.Place
place_of Written = lowering.Written
place_of Argument = lowering.Argument
place_of Element = lowering.Element
