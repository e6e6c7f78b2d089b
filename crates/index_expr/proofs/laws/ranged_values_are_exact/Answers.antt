use Rattle.index_expr.proofs.Words.{ranged_is_exact, ranged_divisors}
use Rattle.index_expr.proofs.laws.ranged_values_are_exact.Goals as goal

pub returns-clause-value : goal.returns-clause-value
returns-clause-value c = ranged_is_exact

pub returns-clause-divisors : goal.returns-clause-divisors
returns-clause-divisors c = ranged_divisors
