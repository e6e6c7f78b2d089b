use Rattle.tidy_printed.proofs.TidiedGrids.{code_is}
use Rattle.tidy_printed.proofs.terms.tidied_grid_codes_are_printed.Goals as goal

pub returns : goal.returns
returns c = code_is
