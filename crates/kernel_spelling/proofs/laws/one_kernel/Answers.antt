use Rattle.kernel_spelling.proofs.One.{one_kernel}
use Rattle.kernel_spelling.proofs.laws.one_kernel.Goals as goal

pub returns : goal.returns
returns c = one_kernel
