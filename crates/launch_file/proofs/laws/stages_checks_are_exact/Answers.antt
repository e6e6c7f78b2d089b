use Rattle.launch_file.proofs.StagesExact.{checks_are_exact}
use Rattle.launch_file.proofs.laws.stages_checks_are_exact.Goals as goal

pub returns : goal.returns
returns c = checks_are_exact
