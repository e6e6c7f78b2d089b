use Rattle.worked_kernels.proofs.TidyIndices.{joins_are_counted, joins_are_tidied, joins_do_not_stay, indices_do_not_grow, bounds_are_tidied, bounds_do_not_stay, ifs_tell_of_ids}
use Rattle.worked_kernels.proofs.indices.worked_indices.Goals as goal

pub returns-clause-joins : goal.returns-clause-joins
returns-clause-joins c = (joins_are_counted, joins_are_tidied, joins_do_not_stay)

pub returns-clause-bounds : goal.returns-clause-bounds
returns-clause-bounds c = (bounds_are_tidied, bounds_do_not_stay)

pub returns-clause-others : goal.returns-clause-others
returns-clause-others c = indices_do_not_grow

pub returns-clause-ids : goal.returns-clause-ids
returns-clause-ids c = ifs_tell_of_ids
