use Rattle.printed_form.proofs.Programs.{printed_programs_go_alike}
use Rattle.printed_form.proofs.laws.printed_programs_go_alike.Goals as goal

pub returns : goal.returns
returns c = printed_programs_go_alike
