use Rattle.nest_premises.proofs.LegalNests.{legal_grids_stand_over_grids}
use Rattle.nest_premises.proofs.groups.legal_grids_stand_over_grids.Goals as goal

pub returns : goal.returns
returns c = legal_grids_stand_over_grids c.legal_terms_can_be_lowered.ensures c.legal_terms_keep_fours.ensures c.legal_nests_stand.ensures
