use Rattle.lift_reader.proofs.Belonging.{texts_belong}
use Rattle.lift_reader.proofs.program.programs_may_be_typed.Goals as goal

pub returns : goal.returns
returns c = texts_belong
