-- The clauses of `worked_barriers`, by the lemmas beside.
use Rattle.worked_kernels.proofs.DeviceFaults.{ordered, unordered}
use Rattle.worked_kernels.proofs.device.worked_barriers.Goals as goal

pub returns-clause-ordered : goal.returns-clause-ordered
returns-clause-ordered c = ordered

pub returns-clause-unordered : goal.returns-clause-unordered
returns-clause-unordered c = unordered
