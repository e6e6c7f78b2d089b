use Rattle.kernel_premises.proofs.SoundTerms.{sound_parts_are_spelled}
use Rattle.kernel_premises.proofs.terms.sound_parts_are_spelled.Goals as goal

pub returns : goal.returns
returns c = sound_parts_are_spelled c.lengths_are_bounds.ensures
