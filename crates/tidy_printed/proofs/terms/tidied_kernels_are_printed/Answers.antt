use Rattle.tidy_printed.proofs.TidiedKernels.{kernel_is}
use Rattle.tidy_printed.proofs.terms.tidied_kernels_are_printed.Goals as goal

pub returns : goal.returns
returns c = kernel_is c.tidied_codes_are_printed.ensures c.tidied_group_codes_are_printed.ensures c.tidied_grid_codes_are_printed.ensures
