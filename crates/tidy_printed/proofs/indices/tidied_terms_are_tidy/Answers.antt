use Rattle.tidy_printed.proofs.KernelIndices.{terms_are_tidy}
use Rattle.tidy_printed.proofs.indices.tidied_terms_are_tidy.Goals as goal

pub returns : goal.returns
returns c = terms_are_tidy
