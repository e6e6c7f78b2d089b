use Rattle.nest_premises.proofs.Whole.{tasks_are_printable}
use Rattle.nest_premises.proofs.laws.tasks_are_printable.Goals as goal

pub returns : goal.returns
returns c = tasks_are_printable
