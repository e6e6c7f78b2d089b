use Rattle.size_arith.proofs.LeastSizes.{leasts_are_admissible}
use Rattle.kernel_premises.proofs.soundness.least_sizes_are_admissible.Goals as goal

pub returns : goal.returns
returns c = leasts_are_admissible
