-- The clauses of `worked_tiles`, by the lemmas beside.
use Rattle.worked_kernels.proofs.DeviceRuns.{ifs_may_start, ifs_run, ifs_end, ifs_left}
use Rattle.worked_kernels.proofs.device.worked_tiles.Goals as goal

pub returns-clause-may_start : goal.returns-clause-may_start
returns-clause-may_start c = ifs_may_start

pub returns-clause-run : goal.returns-clause-run
returns-clause-run c = ifs_run

pub returns-clause-ends : goal.returns-clause-ends
returns-clause-ends c = ifs_end

pub returns-clause-left : goal.returns-clause-left
returns-clause-left c = ifs_left
