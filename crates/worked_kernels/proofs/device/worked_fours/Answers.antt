-- The clauses of `worked_fours`, by the lemmas beside.
use Rattle.worked_kernels.proofs.DeviceFaults as worked
use Rattle.worked_kernels.proofs.device.worked_fours.Goals as goal

pub returns-clause-least : goal.returns-clause-least
returns-clause-least c = worked.least_race

pub returns-clause-last_outside : goal.returns-clause-last_outside
returns-clause-last_outside c = worked.last_outside

pub returns-clause-inside : goal.returns-clause-inside
returns-clause-inside c = worked.inside_fours

pub returns-clause-far : goal.returns-clause-far
returns-clause-far c = worked.far

pub returns-clause-third : goal.returns-clause-third
returns-clause-third c = worked.third_race

pub returns-clause-divisor : goal.returns-clause-divisor
returns-clause-divisor c = worked.zero_lane
