use Rattle.index_simplify.proofs.Tests.{is_operation}
use Rattle.index_simplify.proofs.laws.same_operations_are_equal.Goals as goal

pub returns : goal.returns
returns c = is_operation
