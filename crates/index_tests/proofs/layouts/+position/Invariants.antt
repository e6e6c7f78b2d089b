use Rattle.std.proofs.Common.{length}
use Rattle.index_tests.proofs.layouts.+position.Given as goal

abbrev pub decreases-position : goal.decreases-position
decreases-position l = length l.lengths.now
