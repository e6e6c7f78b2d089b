use Rattle.nest_premises.proofs.Whole.{kinds_tell_tasks}
use Rattle.nest_premises.proofs.laws.kinds_tell_tasks.Goals as goal

pub returns : goal.returns
returns c = kinds_tell_tasks
