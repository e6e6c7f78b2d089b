use Rattle.tidy_printed.proofs.TidiedGroups.{code_is}
use Rattle.tidy_printed.proofs.terms.tidied_group_codes_are_printed.Goals as goal

pub returns : goal.returns
returns c = code_is c.tidied_loads_are_printed.ensures c.tidied_maps_are_printed.ensures
