-- The law of `independent_items`, by the lemmas beside.
use Rattle.kernel_tree.proofs.Independent.{as_allowed}
use Rattle.kernel_tree.proofs.laws.independent_items.Goals as goal

pub returns : goal.returns
returns c = λ d s o deeds ends whole ind. as_allowed d s o deeds ends ind whole
