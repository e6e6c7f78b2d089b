use Rattle.nest_premises.proofs.LegalNests.{legal_terms_are_printable}
use Rattle.nest_premises.proofs.groups.legal_terms_are_printable.Goals as goal

pub returns : goal.returns
returns c = legal_terms_are_printable c.ungrouped_terms_are_printable.ensures c.legal_groups_stand_over_groups.ensures c.legal_grids_stand_over_grids.ensures
