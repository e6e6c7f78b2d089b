use Rattle.std.proofs.Common.{length}
use Rattle.size_arith.proofs.insertion.+order.Given as goal

abbrev pub decreases-order : goal.decreases-order
decreases-order l = length l.a.now
