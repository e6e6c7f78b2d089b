use Rattle.std.proofs.Common.{length}
use Rattle.index_tests.proofs.layouts.+last_lengths.Given as goal

abbrev pub decreases-last_lengths : goal.decreases-last_lengths
decreases-last_lengths l = length l.layouts.now
