use Rattle.std.proofs.Common.{length}
use Rattle.index_tests.proofs.kinds.+arrays.Given as goal

abbrev pub decreases-arrays : goal.decreases-arrays
decreases-arrays l = length l.lengths.now
