use Rattle.compilation.proofs.Once.{sequences_one}
use Rattle.compilation.proofs.laws.sequences_end_once.Goals as goal

pub returns : goal.returns
returns c = sequences_one c.sources_end_once.ensures c.legal_without_fault.ensures
