-- The law of `inputs_stay`, by the lemmas beside.
use Rattle.kernel_tree.proofs.Inputs.{inputs_left}
use Rattle.kernel_tree.proofs.laws.inputs_stay.Goals as goal

pub returns : goal.returns
returns c = inputs_left
