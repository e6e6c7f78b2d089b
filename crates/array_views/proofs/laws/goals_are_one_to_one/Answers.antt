use Rattle.array_views.proofs.Cells.{differ, full}
use Rattle.array_views.proofs.laws.goals_are_one_to_one.Goals as goal

pub returns-clause-different : goal.returns-clause-different
returns-clause-different c = differ

pub returns-clause-full : goal.returns-clause-full
returns-clause-full c = full
