use Rattle.std.proofs.Common.{length}
use Rattle.size_arith.proofs.division.+are_at_most.Given as goal

abbrev pub decreases-are_at_most : goal.decreases-are_at_most
decreases-are_at_most l = length l.powers.now
