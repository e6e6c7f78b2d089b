use Rattle.nest_premises.proofs.Phases.{phases_are_few, grid_phases_are_few}
use Rattle.nest_premises.proofs.groups.phases_are_few.Goals as goal

pub returns-clause-alone : goal.returns-clause-alone
returns-clause-alone c = phases_are_few

pub returns-clause-in_rows : goal.returns-clause-in_rows
returns-clause-in_rows c = grid_phases_are_few
