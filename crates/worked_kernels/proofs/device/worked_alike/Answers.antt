-- The clauses of `worked_alike`, by the lemmas beside.
use Rattle.worked_kernels.proofs.DeviceAlike as worked
use Rattle.worked_kernels.proofs.device.worked_alike.Goals as goal

pub returns-clause-alike : goal.returns-clause-alike
returns-clause-alike c = λ m cells. worked.swaps_alike _ _ _ _ worked.plain_indices worked.choosing_indices m cells

pub returns-clause-traffic : goal.returns-clause-traffic
returns-clause-traffic c = worked.swaps_count
