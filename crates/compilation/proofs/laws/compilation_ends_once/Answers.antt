use Rattle.compilation.proofs.Once.{legal_one}
use Rattle.compilation.proofs.laws.compilation_ends_once.Goals as goal

pub returns : goal.returns
returns c = legal_one c.sources_end_once.ensures c.legal_without_fault.ensures
