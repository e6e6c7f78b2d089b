use Rattle.tidy_indices.proofs.Kept.{irredundant}
use Rattle.tidy_indices.proofs.laws.tidy_formulas_are_irredundant.Goals as goal

pub returns : goal.returns
returns c = irredundant c.simple_formulas_are_irredundant.ensures
