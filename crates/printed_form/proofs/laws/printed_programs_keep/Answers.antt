use Rattle.printed_form.proofs.Programs.{printed_programs_keep}
use Rattle.printed_form.proofs.laws.printed_programs_keep.Goals as goal

pub returns : goal.returns
returns c = printed_programs_keep
