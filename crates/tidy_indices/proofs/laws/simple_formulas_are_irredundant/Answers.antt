use Rattle.tidy_indices.proofs.Shapes.{are_irredundant}
use Rattle.tidy_indices.proofs.laws.simple_formulas_are_irredundant.Goals as goal

pub returns : goal.returns
returns c = are_irredundant c.expressions_are_simplified.ensures
