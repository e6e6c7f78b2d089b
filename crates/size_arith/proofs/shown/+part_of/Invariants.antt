use Rattle.std.proofs.Common.{length}
use Rattle.size_arith.proofs.shown.+part_of.Given as goal

abbrev pub decreases-part_of : goal.decreases-part_of
decreases-part_of l = length l.leasts.now
