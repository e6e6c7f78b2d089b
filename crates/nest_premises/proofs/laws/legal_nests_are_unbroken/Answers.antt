use Rattle.nest_premises.proofs.Whole.{legal_nests_are_unbroken}
use Rattle.nest_premises.proofs.laws.legal_nests_are_unbroken.Goals as goal

pub returns : goal.returns
returns c = legal_nests_are_unbroken
