use Rattle.launch_file.proofs.StagesExact.{files_give_one_thing}
use Rattle.launch_file.proofs.laws.stages_files_give_one_thing.Goals as goal

pub returns : goal.returns
returns c = files_give_one_thing
