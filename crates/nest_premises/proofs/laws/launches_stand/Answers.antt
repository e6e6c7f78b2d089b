use Rattle.nest_premises.proofs.Whole.{launches_stand}
use Rattle.nest_premises.proofs.laws.launches_stand.Goals as goal

pub returns : goal.returns
returns c = launches_stand
