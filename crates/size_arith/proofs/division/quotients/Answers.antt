use Rattle.std.proofs.Common.{◌^◌, [], pos}
use Rattle.size_arith.proofs.Quotients.{divides_at}
use Rattle.size_arith.proofs.Finding.{small_get}
use Rattle.size_arith.proofs.division.quotients.Goals as goal

pub divided-requires-clause-small : goal.divided-requires-clause-small
divided-requires-clause-small c = small_get (2 ^ 32) c.args.monomials.now c.loop-monomial.monomial-index (record { coefficient = pos 0; powers = [] }) c.loop-monomial-test.true c.requires.small

pub divided-requires-clause-divides : goal.divided-requires-clause-divides
divided-requires-clause-divides c = divides_at c.args.divisor.now c.args.monomials.now c.loop-monomial.monomial-index (record { coefficient = pos 0; powers = [] }) c.loop-monomial-test.true c.requires.divide
