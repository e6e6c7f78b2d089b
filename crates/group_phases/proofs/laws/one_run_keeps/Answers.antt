use Rattle.group_phases.proofs.Keeps.{keeps_from_chunks}
use Rattle.group_phases.proofs.laws.one_run_keeps.Goals as goal

pub returns : goal.returns
returns c = keeps_from_chunks
