use Rattle.tidy_indices.proofs.Values.{have_the_values}
use Rattle.tidy_indices.proofs.laws.simple_formulas_have_the_values.Goals as goal

pub returns : goal.returns
returns c = have_the_values c.expressions_are_simplified.ensures c.ranged_formulas_have_the_values.ensures
