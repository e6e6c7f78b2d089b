use Rattle.lift_ir.proofs.Served.{layouts_lead_positions}
use Rattle.lift_ir.proofs.laws.layouts_lead_positions.Goals as goal

pub returns : goal.returns
returns c = layouts_lead_positions
