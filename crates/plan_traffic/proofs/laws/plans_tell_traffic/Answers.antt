use Rattle.plan_traffic.proofs.Told.{plans_tell}
use Rattle.plan_traffic.proofs.laws.plans_tell_traffic.Goals as goal

pub returns : goal.returns
returns c = plans_tell c.legal_terms_are_printable.ensures c.runs_have_traffic.ensures
