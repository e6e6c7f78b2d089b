use Rattle.worked_kernels.proofs.GroupRuns.{added_tiles_keep, summed_tiles_keep, six_keep, unnamed_copies_are_unused}
use Rattle.worked_kernels.proofs.groups.worked_groups_keep.Goals as goal

pub returns-clause-added : goal.returns-clause-added
returns-clause-added c = added_tiles_keep c.uses_tell_barriers.ensures.aligned c.numbered_groups_keep.ensures.separated c.numbered_groups_keep.ensures.apart

pub returns-clause-summed : goal.returns-clause-summed
returns-clause-summed c = summed_tiles_keep c.uses_tell_barriers.ensures.told c.tiles_keep.ensures.exchanged.0 c.numbered_groups_keep.ensures.separated c.numbered_groups_keep.ensures.apart

pub returns-clause-six : goal.returns-clause-six
returns-clause-six c = six_keep (returns-clause-summed c)

pub returns-clause-unnamed : goal.returns-clause-unnamed
returns-clause-unnamed c = unnamed_copies_are_unused c.uses_tell_barriers.ensures.aligned
