use Rattle.std.proofs.Common.{length}
use Rattle.launch_file.proofs.asked.+names_size.Given as goal

abbrev pub decreases-names_size : goal.decreases-names_size
decreases-names_size l = length l.sizes.now
