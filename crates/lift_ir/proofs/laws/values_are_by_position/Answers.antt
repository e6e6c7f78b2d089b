use Rattle.lift_ir.proofs.Served.{values_are_by_position}
use Rattle.lift_ir.proofs.laws.values_are_by_position.Goals as goal

pub returns : goal.returns
returns c = values_are_by_position
