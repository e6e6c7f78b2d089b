use Rattle.nest_premises.proofs.Whole.{launches_are_printable}
use Rattle.nest_premises.proofs.laws.launches_are_printable.Goals as goal

pub returns : goal.returns
returns c = launches_are_printable
