use Rattle.group_form.proofs.EitherPrinter.{kernels_are_printed}
use Rattle.group_form.proofs.kernels.kernels_are_printed.Goals as goal

pub returns : goal.returns
returns c = kernels_are_printed c.programs_are_printed.ensures c.the_group_printer_prints.ensures c.the_grid_printer_prints.ensures.prints
