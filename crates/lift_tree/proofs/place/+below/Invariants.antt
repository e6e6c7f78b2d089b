use Rattle.std.proofs.Common.{length}
use Rattle.lift_tree.proofs.place.+below.Given as goal

abbrev pub decreases-below : goal.decreases-below
decreases-below l = length l.numbers.now
