use Rattle.index_simplify.proofs.Apart.{come_apart, nothing_is_added}
use Rattle.index_simplify.proofs.laws.cells_come_apart.Goals as goal

pub returns-clause-apart : goal.returns-clause-apart
returns-clause-apart c = come_apart

pub returns-clause-nothing : goal.returns-clause-nothing
returns-clause-nothing c = nothing_is_added
