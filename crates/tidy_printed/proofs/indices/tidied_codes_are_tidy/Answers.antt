use Rattle.tidy_printed.proofs.KernelIndices.{codes_are_tidy}
use Rattle.tidy_printed.proofs.indices.tidied_codes_are_tidy.Goals as goal

pub returns : goal.returns
returns c = codes_are_tidy
