use Rattle.launch_file.proofs.Exact.{files_give_one_thing}
use Rattle.launch_file.proofs.laws.files_give_one_thing.Goals as goal

pub returns : goal.returns
returns c = files_give_one_thing
