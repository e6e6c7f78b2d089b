use Rattle.launch_file.proofs.ReadValues.{value_of-List}
use Rattle.launch_file.proofs.laws.lists_are_arrays.Goals as goal

pub returns : goal.returns
returns c = value_of-List
