use Rattle.kernel_sequence.proofs.Whole as whole
use Rattle.kernel_sequence.proofs.laws.kernels_are_sound.Goals as goal

pub returns : goal.returns
returns c = whole.kernels_are_sound
