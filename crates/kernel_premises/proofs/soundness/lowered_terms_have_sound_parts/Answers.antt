use Rattle.kernel_premises.proofs.LegalTerms.{lowered_terms_have_sound_parts}
use Rattle.kernel_premises.proofs.soundness.lowered_terms_have_sound_parts.Goals as goal

pub returns : goal.returns
returns c = lowered_terms_have_sound_parts
