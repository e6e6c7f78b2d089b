-- The clauses of `worked_faults`, by the lemmas beside.
use Rattle.worked_kernels.proofs.DeviceFaults.{race, out_of_range, zero_divisor, divergent}
use Rattle.worked_kernels.proofs.device.worked_faults.Goals as goal

pub returns-clause-race : goal.returns-clause-race
returns-clause-race c = race

pub returns-clause-out_of_range : goal.returns-clause-out_of_range
returns-clause-out_of_range c = out_of_range

pub returns-clause-zero_divisor : goal.returns-clause-zero_divisor
returns-clause-zero_divisor c = zero_divisor

pub returns-clause-divergent : goal.returns-clause-divergent
returns-clause-divergent c = divergent
