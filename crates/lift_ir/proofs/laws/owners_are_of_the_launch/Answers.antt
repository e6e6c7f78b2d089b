use Rattle.lift_ir.proofs.Served.{owners_are_of_the_launch}
use Rattle.lift_ir.proofs.laws.owners_are_of_the_launch.Goals as goal

pub returns : goal.returns
returns c = owners_are_of_the_launch
