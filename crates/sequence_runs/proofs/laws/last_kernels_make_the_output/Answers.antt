use Rattle.std.proofs.Common.{[]}
use Rattle.sequence_runs.proofs.Values.{left_type}
use Rattle.sequence_runs.proofs.laws.last_kernels_make_the_output.Goals as goal

pub returns : goal.returns
returns c = λ i t n. left_type i [] t n
