use Rattle.std.proofs.Common.{length}
use Rattle.index_tests.proofs.kinds.+written_through.Given as goal

abbrev pub decreases-written_through : goal.decreases-written_through
decreases-written_through l = length l.layouts.now
