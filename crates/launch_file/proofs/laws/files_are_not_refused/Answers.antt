use Rattle.launch_file.proofs.Exact.{files_are_not_refused}
use Rattle.launch_file.proofs.laws.files_are_not_refused.Goals as goal

pub returns : goal.returns
returns c = files_are_not_refused
