use Rattle.index_expr.proofs.LengthValues.{length_value, length_is_ranged, length_divides}
use Rattle.index_expr.proofs.laws.lengths_are_exact.Goals as goal

pub returns-clause-value : goal.returns-clause-value
returns-clause-value c = length_value

pub returns-clause-ranged : goal.returns-clause-ranged
returns-clause-ranged c = length_is_ranged

pub returns-clause-divisors : goal.returns-clause-divisors
returns-clause-divisors c = length_divides
