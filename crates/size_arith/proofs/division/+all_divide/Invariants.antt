use Rattle.std.proofs.Common.{length}
use Rattle.size_arith.proofs.division.+all_divide.Given as goal

abbrev pub decreases-all_divide : goal.decreases-all_divide
decreases-all_divide l = length l.monomials.now
