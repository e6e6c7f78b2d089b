use Rattle.group_form.proofs.EitherPrinter.{kernels_start}
use Rattle.group_form.proofs.kernels.kernels_start.Goals as goal

pub returns : goal.returns
returns c = kernels_start c.printed_programs_start.ensures
