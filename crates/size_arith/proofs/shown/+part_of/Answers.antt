use Rattle.std.proofs.Common.{◌≡◌, ◌*◌, arith}
use Rattle.std.proofs.lemmas.Grind.{common_steps}
use Rattle.size_arith.specs.Shown.{part}
use Rattle.size_arith.proofs.Caps.{part_fits}
use Rattle.size_arith.proofs.shown.+part_of.Goals as goal

pub overflow_mul-result-in-len1-up-powers : goal.overflow_mul-result-in-len1-up-powers
overflow_mul-result-in-len1-up-powers t c =
    let e : c.share_of-in-len1-up-powers.result * c.part_of-in-len1-up-powers.result ≡ part c.args.leasts.now c.args.powers.now c.args.new_powers.now = grind (arith, common_steps) in
    let f = part_fits c.args.leasts.now c.args.powers.now c.args.new_powers.now c.requires.small c.requires.low in
    record { fits = omega arith }

pub returns-in-len1-up-powers-clause-cap : goal.returns-in-len1-up-powers-clause-cap
returns-in-len1-up-powers-clause-cap t c =
    let e : c.share_of-in-len1-up-powers.result * c.part_of-in-len1-up-powers.result ≡ part c.args.leasts.now c.args.powers.now c.args.new_powers.now = grind (arith, common_steps) in
    let f = part_fits c.args.leasts.now c.args.powers.now c.args.new_powers.now c.requires.small c.requires.low in
    omega arith
