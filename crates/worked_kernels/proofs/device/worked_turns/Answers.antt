-- The clauses of `worked_turns`, by the lemmas beside.
use Rattle.worked_kernels.proofs.DeviceFaults as worked
use Rattle.worked_kernels.proofs.device.worked_turns.Goals as goal

pub returns-clause-first_variable : goal.returns-clause-first_variable
returns-clause-first_variable c = worked.first_variable

pub returns-clause-second_variable : goal.returns-clause-second_variable
returns-clause-second_variable c = worked.second_variable

pub returns-clause-same_turns : goal.returns-clause-same_turns
returns-clause-same_turns c = worked.same_turns

pub returns-clause-other_turns : goal.returns-clause-other_turns
returns-clause-other_turns c = worked.other_turns
