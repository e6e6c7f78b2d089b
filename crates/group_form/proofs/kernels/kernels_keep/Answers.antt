use Rattle.group_form.proofs.EitherPrinter.{kernels_keep, kernels_serve}
use Rattle.group_form.proofs.kernels.kernels_keep.Goals as goal

pub returns-clause-keep : goal.returns-clause-keep
returns-clause-keep c = kernels_keep c.printed_programs_keep.ensures c.printed_groups_keep.ensures.needed c.grids_keep.ensures.needed

pub returns-clause-serve : goal.returns-clause-serve
returns-clause-serve c = kernels_serve c.printed_programs_keep.ensures c.printed_programs_start.ensures c.printed_groups_keep.ensures.serve c.printed_groups_keep.ensures.apart c.grids_keep.ensures.serve c.grids_keep.ensures.apart
