use Rattle.tidy_indices.proofs.Kept.{no_larger}
use Rattle.tidy_indices.proofs.laws.tidy_formulas_are_no_larger.Goals as goal

pub returns : goal.returns
returns c = no_larger c.simple_formulas_are_no_larger.ensures
