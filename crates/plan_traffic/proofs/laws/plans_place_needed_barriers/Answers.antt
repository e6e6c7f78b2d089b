use Rattle.plan_traffic.proofs.Told.{needed_of}
use Rattle.plan_traffic.proofs.laws.plans_place_needed_barriers.Goals as goal

pub returns : goal.returns
returns c = needed_of
