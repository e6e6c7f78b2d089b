use Rattle.group_phases.proofs.Epochs.{apart_by_turns, apart_once}
use Rattle.group_phases.proofs.laws.conflicting_phases_are_apart.Goals as goal

pub returns-clause-by_turns : goal.returns-clause-by_turns
returns-clause-by_turns c = apart_by_turns

pub returns-clause-once : goal.returns-clause-once
returns-clause-once c = apart_once
