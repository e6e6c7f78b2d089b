use Rattle.size_arith.proofs.Soundness.{value_raised}
use Rattle.size_arith.proofs.poly.shifts_are_exact.Goals as goal

pub returns : goal.returns
returns c = value_raised
