use Rattle.std.proofs.Common.{arith}
use Rattle.size_arith.proofs.Above.{adds_nothing}
use Rattle.size_arith.proofs.shown.term_of.Goals as goal

pub returns-then-not-are_at_most-clause-value : goal.returns-then-not-are_at_most-clause-value
returns-then-not-are_at_most-clause-value c =
    let n = c.requires.narrow in
    let w = c.requires.wide in
    adds_nothing c.args.monomial.now.coefficient c.args.leasts.now c.args.monomial.now.powers c.args.new_powers.now c.requires.no_more (omega arith) (λ a. let x = c.are_at_most.ensures.1 a in let y = c.if-not-are_at_most.true in absurd (cc))
