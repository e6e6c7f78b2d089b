use Rattle.lowered_tree.proofs.Legal.{legal_without_fault}
use Rattle.lowered_tree.proofs.laws.legal_without_fault.Goals as goal

pub returns : goal.returns
returns c = legal_without_fault
