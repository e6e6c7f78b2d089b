use Rattle.launch_file.proofs.StagesExact.{files_are_not_refused}
use Rattle.launch_file.proofs.laws.stages_files_are_not_refused.Goals as goal

pub returns : goal.returns
returns c = files_are_not_refused
