use Rattle.nest_premises.proofs.Whole.{legal_terms_keep_fours}
use Rattle.nest_premises.proofs.laws.legal_terms_keep_fours.Goals as goal

pub returns : goal.returns
returns c = legal_terms_keep_fours
