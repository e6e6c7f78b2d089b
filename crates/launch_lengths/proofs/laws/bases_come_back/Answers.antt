use Rattle.launch_lengths.proofs.Bases.{bases_back}
use Rattle.launch_lengths.proofs.laws.bases_come_back.Goals as goal

pub returns : goal.returns
returns c = bases_back
