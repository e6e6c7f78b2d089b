use Rattle.std.proofs.Common.{length}
use Rattle.index_tests.proofs.kinds.+literals.Given as goal

abbrev pub decreases-literals : goal.decreases-literals
decreases-literals l = length l.numbers.now
