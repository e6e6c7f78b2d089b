use Rattle.tidy_indices.proofs.Sizes.{are_no_larger}
use Rattle.tidy_indices.proofs.laws.simple_formulas_are_no_larger.Goals as goal

pub returns : goal.returns
returns c = are_no_larger c.expressions_are_simplified.ensures
