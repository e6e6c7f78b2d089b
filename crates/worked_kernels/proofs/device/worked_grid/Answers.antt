-- The clauses of `worked_grid`, by the lemmas beside.
use Rattle.worked_kernels.proofs.DeviceRuns.{rows_run, rows_end, rows_written, rows_left}
use Rattle.worked_kernels.proofs.device.worked_grid.Goals as goal

pub returns-clause-run : goal.returns-clause-run
returns-clause-run c = rows_run

pub returns-clause-ends : goal.returns-clause-ends
returns-clause-ends c = rows_end

pub returns-clause-written : goal.returns-clause-written
returns-clause-written c = rows_written

pub returns-clause-left : goal.returns-clause-left
returns-clause-left c = rows_left
