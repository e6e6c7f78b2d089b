use Rattle.kernel_premises.proofs.Nests.{nests_within}
use Rattle.kernel_premises.proofs.limits.terms_nest_within.Goals as goal

pub returns : goal.returns
returns c = nests_within
