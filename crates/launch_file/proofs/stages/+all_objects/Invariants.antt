use Rattle.std.proofs.Common.{length}
use Rattle.launch_file.proofs.stages.+all_objects.Given as goal

abbrev pub decreases-all_objects : goal.decreases-all_objects
decreases-all_objects l = length l.values.now
