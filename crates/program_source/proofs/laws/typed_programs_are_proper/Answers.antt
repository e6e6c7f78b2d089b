use Rattle.program_source.proofs.Proper.{proper}
use Rattle.program_source.proofs.laws.typed_programs_are_proper.Goals as goal

pub returns : goal.returns
returns c = proper c.programs_may_be_typed.ensures c.judged_inputs_are_proper.ensures
