use Rattle.std.proofs.Common.{length}
use Rattle.size_arith.proofs.shown.+all_above.Given as goal

abbrev pub decreases-all_above : goal.decreases-all_above
decreases-all_above l = length l.monomials.now
