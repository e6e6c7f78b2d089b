use Rattle.tidy_printed.proofs.TidiedTerms.{maps_are}
use Rattle.tidy_printed.proofs.terms.tidied_maps_are_printed.Goals as goal

pub returns : goal.returns
returns c = maps_are
