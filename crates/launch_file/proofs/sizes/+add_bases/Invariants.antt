use Rattle.std.proofs.Common.{length}
use Rattle.launch_file.proofs.sizes.+add_bases.Given as goal

abbrev pub decreases-add_bases : goal.decreases-add_bases
decreases-add_bases l = length l.sizes.now
