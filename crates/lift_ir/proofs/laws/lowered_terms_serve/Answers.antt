use Rattle.lift_ir.proofs.Served.{lowered_terms_serve}
use Rattle.lift_ir.proofs.laws.lowered_terms_serve.Goals as goal

pub returns : goal.returns
returns c = lowered_terms_serve
