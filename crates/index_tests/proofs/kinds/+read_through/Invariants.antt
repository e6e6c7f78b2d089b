use Rattle.std.proofs.Common.{length}
use Rattle.index_tests.proofs.kinds.+read_through.Given as goal

abbrev pub decreases-read_through : goal.decreases-read_through
decreases-read_through l = length l.layouts.now
