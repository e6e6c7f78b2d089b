-- The clauses of `worked_arrays`, by the lemmas beside.
use Rattle.worked_kernels.proofs.DeviceFaults.{one_group_races, two_groups_apart, private_apart}
use Rattle.worked_kernels.proofs.device.worked_arrays.Goals as goal

pub returns-clause-one_group : goal.returns-clause-one_group
returns-clause-one_group c = one_group_races

pub returns-clause-two_groups : goal.returns-clause-two_groups
returns-clause-two_groups c = two_groups_apart

pub returns-clause-private : goal.returns-clause-private
returns-clause-private c = private_apart
