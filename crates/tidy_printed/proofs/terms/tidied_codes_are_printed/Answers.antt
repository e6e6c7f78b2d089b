use Rattle.tidy_printed.proofs.TidiedKernels.{code_is}
use Rattle.tidy_printed.proofs.terms.tidied_codes_are_printed.Goals as goal

pub returns : goal.returns
returns c = code_is
