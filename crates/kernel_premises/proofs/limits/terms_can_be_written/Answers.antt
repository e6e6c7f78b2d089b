use Rattle.kernel_premises.proofs.Written.{terms_can_be_written}
use Rattle.kernel_premises.proofs.limits.terms_can_be_written.Goals as goal

pub returns : goal.returns
returns c = terms_can_be_written
