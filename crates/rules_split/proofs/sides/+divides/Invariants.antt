use Rattle.std.proofs.Common.{length}
use Rattle.rules_split.proofs.sides.+divides.Given as goal

abbrev pub decreases-divides : goal.decreases-divides
decreases-divides l = length l.length.now
