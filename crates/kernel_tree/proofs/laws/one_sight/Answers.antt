-- The law of `one_sight`, by the lemmas beside.
use Rattle.kernel_tree.proofs.Sights as sights
use Rattle.kernel_tree.proofs.laws.one_sight.Goals as goal

pub returns-clause-fault : goal.returns-clause-fault
returns-clause-fault c = sights.one_fault

pub returns-clause-seen : goal.returns-clause-seen
returns-clause-seen c = sights.one_sight
