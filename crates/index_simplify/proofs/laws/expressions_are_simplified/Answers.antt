use Rattle.index_simplify.proofs.Operations.{simple_is_simplified}
use Rattle.index_simplify.proofs.laws.expressions_are_simplified.Goals as goal

pub returns : goal.returns
returns c = simple_is_simplified
