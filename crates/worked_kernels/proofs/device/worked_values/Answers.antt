-- The clauses of `worked_values`, by the lemmas beside.
use Rattle.worked_kernels.proofs.DeviceFaults as worked
use Rattle.worked_kernels.proofs.device.worked_values.Goals as goal

pub returns-clause-goes_on : goal.returns-clause-goes_on
returns-clause-goes_on c = worked.goes_on

pub returns-clause-wraps : goal.returns-clause-wraps
returns-clause-wraps c = worked.wraps
