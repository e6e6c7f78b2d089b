use Rattle.tidy_indices.proofs.Kept.{short}
use Rattle.tidy_indices.proofs.laws.tidy_formulas_are_short.Goals as goal

pub returns : goal.returns
returns c = short c.expressions_are_simplified.ensures
