use Rattle.kernel_sequence.proofs.Made.{MadeSoFar}
use Rattle.kernel_sequence.proofs.sequence.kernels.Given as goal

abbrev pub invariant-loop-part : goal.invariant-loop-part
invariant-loop-part l = MadeSoFar l.whole l.yielded l.kernels.items l.scratch.items
