use Rattle.std.proofs.Common.{◌≡◌, ◌*◌, arith}
use Rattle.std.proofs.lemmas.Grind.{common_steps}
use Rattle.size_arith.specs.Polynomial.{product}
use Rattle.size_arith.proofs.Caps.{product_fits}
use Rattle.size_arith.proofs.shown.+product_at.Goals as goal

pub overflow_mul-result : goal.overflow_mul-result
overflow_mul-result t c =
    let e : c.pow.result * c.product_at.result ≡ product c.args.bases.now c.args.powers.now = grind (arith, common_steps) in
    let f = product_fits c.args.bases.now c.args.powers.now c.requires.small c.requires.low in
    record { fits = omega arith }

pub returns-in-len1-up-powers-clause-cap : goal.returns-in-len1-up-powers-clause-cap
returns-in-len1-up-powers-clause-cap t c =
    let e : c.pow.result * c.product_at.result ≡ product c.args.bases.now c.args.powers.now = grind (arith, common_steps) in
    let f = product_fits c.args.bases.now c.args.powers.now c.requires.small c.requires.low in
    omega arith
