use Rattle.nest_premises.proofs.Whole.{ungrouped_terms_are_printable}
use Rattle.nest_premises.proofs.laws.ungrouped_terms_are_printable.Goals as goal

pub returns : goal.returns
returns c = ungrouped_terms_are_printable
