-- The clauses of `worked_releases`, by the lemmas beside.
use Rattle.worked_kernels.proofs.DeviceFaults as worked
use Rattle.worked_kernels.proofs.device.worked_releases.Goals as goal

pub returns-clause-enabled : goal.returns-clause-enabled
returns-clause-enabled c = worked.in_order_of_groups
