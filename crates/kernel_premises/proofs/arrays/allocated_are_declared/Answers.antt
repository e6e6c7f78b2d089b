use Rattle.kernel_premises.proofs.FewArrays.{allocated_are_declared}
use Rattle.kernel_premises.proofs.arrays.allocated_are_declared.Goals as goal

pub returns : goal.returns
returns c = allocated_are_declared
