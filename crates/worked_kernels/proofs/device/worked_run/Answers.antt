-- The clauses of `worked_run`, by the lemmas beside.
use Rattle.worked_kernels.proofs.DeviceFaults.{runs, all_ended, first, second, third}
use Rattle.worked_kernels.proofs.device.worked_run.Goals as goal

pub returns-clause-ends : goal.returns-clause-ends
returns-clause-ends c = (runs, all_ended)

pub returns-clause-first : goal.returns-clause-first
returns-clause-first c = first

pub returns-clause-second : goal.returns-clause-second
returns-clause-second c = second

pub returns-clause-third : goal.returns-clause-third
returns-clause-third c = third
