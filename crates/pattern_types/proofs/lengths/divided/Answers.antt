use Rattle.pattern_types.proofs.Tried.{quotient_answers}
use Rattle.pattern_types.proofs.lengths.divided.Goals as goal

pub returns : goal.returns
returns c = quotient_answers c.divide_exact.result c.args.monomial.now c.args.poly.now c.divide_exact.ensures.divides c.divide_exact.ensures.quotient
