use Rattle.lift_ir.proofs.Served.{layouts_are_by_position}
use Rattle.lift_ir.proofs.laws.layouts_are_by_position.Goals as goal

pub returns : goal.returns
returns c = layouts_are_by_position
