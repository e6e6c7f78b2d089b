use Rattle.nest_premises.proofs.Whole.{tasks_stand}
use Rattle.nest_premises.proofs.laws.tasks_stand.Goals as goal

pub returns : goal.returns
returns c = tasks_stand
