use Rattle.printed_form.proofs.Programs.{programs_are_printed}
use Rattle.printed_form.proofs.laws.programs_are_printed.Goals as goal

pub returns : goal.returns
returns c = programs_are_printed
