-- The law of `items_between_releases`, by the lemmas beside.
use Rattle.kernel_tree.proofs.Chunks.{passed, state_after}
use Rattle.kernel_tree.proofs.laws.items_between_releases.Goals as goal

pub returns : goal.returns
returns c = λ p d s epochs n at deeds ends st. (state_after p d s epochs at deeds ends n, passed p d s epochs at deeds ends n st)
