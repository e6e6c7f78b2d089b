use Rattle.std.proofs.Common.{length}
use Rattle.index_simplify.proofs.simplify.+first_law.Given as goal

abbrev pub decreases-first_law : goal.decreases-first_law
decreases-first_law l = length l.laws.now
