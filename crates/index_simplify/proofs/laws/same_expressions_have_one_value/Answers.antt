use Rattle.index_simplify.proofs.Tests.{same_value}
use Rattle.index_simplify.proofs.laws.same_expressions_have_one_value.Goals as goal

pub returns : goal.returns
returns c = same_value
