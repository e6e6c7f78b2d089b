use Rattle.std.proofs.Common.{◌≡◌, ◌++◌, drop}
use Rattle.size_arith.specs.Polynomial.{quotient}
use Rattle.size_arith.proofs.division.quotients.Given as goal

abbrev pub invariant-loop-monomial : goal.invariant-loop-monomial
invariant-loop-monomial l = l.made.items ++ quotient l.divisor (drop l.monomial-index l.monomials) ≡ quotient l.divisor l.monomials
