use Rattle.index_simplify.proofs.Operations.{tabled_is_simplified}
use Rattle.index_simplify.proofs.laws.tabled_expressions_are_simplified.Goals as goal

pub returns : goal.returns
returns c = tabled_is_simplified
