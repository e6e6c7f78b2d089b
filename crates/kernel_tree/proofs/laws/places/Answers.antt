-- The law of `places`, by the lemmas beside.
use Rattle.kernel_tree.proofs.Places.{all_differ}
use Rattle.kernel_tree.proofs.Standing.{items_stand}
use Rattle.kernel_tree.proofs.Together.{together_at_one_place}
use Rattle.kernel_tree.proofs.laws.places.Goals as goal

pub returns-clause-differ : goal.returns-clause-differ
returns-clause-differ c = all_differ

pub returns-clause-stand : goal.returns-clause-stand
returns-clause-stand c = items_stand

pub returns-clause-together : goal.returns-clause-together
returns-clause-together c = together_at_one_place
