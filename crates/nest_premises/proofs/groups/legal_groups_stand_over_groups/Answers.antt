use Rattle.nest_premises.proofs.LegalNests.{legal_groups_stand_over_groups}
use Rattle.nest_premises.proofs.groups.legal_groups_stand_over_groups.Goals as goal

pub returns : goal.returns
returns c = legal_groups_stand_over_groups c.legal_terms_can_be_lowered.ensures c.legal_terms_keep_fours.ensures c.legal_nests_stand.ensures
