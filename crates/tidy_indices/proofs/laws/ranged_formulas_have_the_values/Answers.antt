use Rattle.tidy_indices.proofs.Values.{ranged_have_the_values}
use Rattle.tidy_indices.proofs.laws.ranged_formulas_have_the_values.Goals as goal

pub returns : goal.returns
returns c = ranged_have_the_values c.ranged_values_are_exact.ensures.value c.ranged_values_are_exact.ensures.divisors c.indices_are_spelled.ensures
