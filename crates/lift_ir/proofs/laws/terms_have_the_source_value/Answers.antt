use Rattle.lift_ir.proofs.Served.{terms_have_the_source_value}
use Rattle.lift_ir.proofs.laws.terms_have_the_source_value.Goals as goal

pub returns : goal.returns
returns c = terms_have_the_source_value
