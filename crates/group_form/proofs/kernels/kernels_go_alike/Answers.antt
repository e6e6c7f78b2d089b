use Rattle.group_form.proofs.EitherPrinter.{kernels_go_alike}
use Rattle.group_form.proofs.kernels.kernels_go_alike.Goals as goal

pub returns : goal.returns
returns c = kernels_go_alike c.printed_programs_go_alike.ensures c.needed_barriers_are_determined.ensures c.kernels_keep.ensures.keep c.kernels_keep.ensures.serve c.kernels_start.ensures
