use Rattle.tidy_kernels.proofs.Grammar.{are_kernels}
use Rattle.tidy_kernels.proofs.laws.tidied_kernels_are_kernels.Goals as goal

pub returns : goal.returns
returns c = are_kernels
