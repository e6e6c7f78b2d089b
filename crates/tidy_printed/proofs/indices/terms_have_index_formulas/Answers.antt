use Rattle.tidy_printed.proofs.KernelIndices.{terms_have}
use Rattle.tidy_printed.proofs.indices.terms_have_index_formulas.Goals as goal

pub returns : goal.returns
returns c = terms_have
