-- The clauses of `worked_sights`, by the lemmas beside.
use Rattle.worked_kernels.proofs.DeviceFaults.{race_seen}
use Rattle.worked_kernels.proofs.device.worked_sights.Goals as goal

pub returns-clause-race : goal.returns-clause-race
returns-clause-race c = race_seen
