use Rattle.std.proofs.Common.{length}
use Rattle.launch_file.proofs.asked.+names_input.Given as goal

abbrev pub decreases-names_input : goal.decreases-names_input
decreases-names_input l = length l.inputs.now
