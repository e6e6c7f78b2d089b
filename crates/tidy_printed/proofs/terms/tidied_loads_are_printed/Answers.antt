use Rattle.tidy_printed.proofs.Statements.{loads_are}
use Rattle.tidy_printed.proofs.terms.tidied_loads_are_printed.Goals as goal

pub returns : goal.returns
returns c = loads_are
