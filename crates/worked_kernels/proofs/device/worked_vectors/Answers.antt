-- The clauses of `worked_vectors`, by the lemmas beside.
use Rattle.worked_kernels.proofs.DeviceRuns.{vectors_run, vectors_end, vectors_left}
use Rattle.worked_kernels.proofs.device.worked_vectors.Goals as goal

pub returns-clause-run : goal.returns-clause-run
returns-clause-run c = vectors_run

pub returns-clause-ends : goal.returns-clause-ends
returns-clause-ends c = vectors_end

pub returns-clause-left : goal.returns-clause-left
returns-clause-left c = vectors_left
