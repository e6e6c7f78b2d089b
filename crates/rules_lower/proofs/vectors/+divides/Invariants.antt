use Rattle.std.proofs.Common.{length}
use Rattle.rules_lower.proofs.vectors.+divides.Given as goal

abbrev pub decreases-divides : goal.decreases-divides
decreases-divides l = length l.length.now
