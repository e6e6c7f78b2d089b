-- The clauses of `worked_ifs`, by the lemmas beside.
use Rattle.worked_kernels.proofs.DeviceFaults as worked
use Rattle.worked_kernels.proofs.device.worked_ifs.Goals as goal

pub returns-clause-enters : goal.returns-clause-enters
returns-clause-enters c = worked.enters

pub returns-clause-passes : goal.returns-clause-passes
returns-clause-passes c = worked.passes

pub returns-clause-divergent : goal.returns-clause-divergent
returns-clause-divergent c = worked.apart_in_an_if

pub returns-clause-run : goal.returns-clause-run
returns-clause-run c = worked.guarded_runs

pub returns-clause-ends : goal.returns-clause-ends
returns-clause-ends c = worked.guarded_ends

pub returns-clause-left : goal.returns-clause-left
returns-clause-left c = worked.guarded_left

pub returns-clause-passed_by : goal.returns-clause-passed_by
returns-clause-passed_by c = worked.passed_by

pub returns-clause-zero_divisor : goal.returns-clause-zero_divisor
returns-clause-zero_divisor c = worked.guarded_zero_divisor
