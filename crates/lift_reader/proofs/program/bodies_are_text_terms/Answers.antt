use Rattle.lift_reader.proofs.Belonging as belonging
use Rattle.lift_reader.proofs.program.bodies_are_text_terms.Goals as goal

pub returns : goal.returns
returns c = belonging.bodies_are_text_terms
