use Rattle.nest_premises.proofs.Whole.{legal_terms_can_be_lowered}
use Rattle.nest_premises.proofs.laws.legal_terms_can_be_lowered.Goals as goal

pub returns : goal.returns
returns c = legal_terms_can_be_lowered
