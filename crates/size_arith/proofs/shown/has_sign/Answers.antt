use Rattle.std.proofs.Common.{◌≡◌, ◌≤◌, ◌*◌, sym, subst, pos, rules, arith}
use Rattle.std.proofs.lemmas.Int.{to_z-of_z, to_z_pos}
use mir.Syntax.{w128}
use mir.Val.{SFits, to_z}
use Rattle.size_arith.specs.Polynomial.{no_powers}
use Rattle.size_arith.specs.Shown.{part, shifted}
use Rattle.size_arith.proofs.Signs.{sign_test, part_no_powers, small_product}
use Rattle.size_arith.proofs.shown.has_sign.Goals as goal

pub overflow_mul-least : goal.overflow_mul-least
overflow_mul-least c =
    let e : c.part_of.result ≡ part c.args.leasts.now no_powers c.args.new_powers.now = c.part_of.ensures.value in
    let f = small_product c.args.k c.part_of.result (subst (λ n. n ≤ 1) (sym e) (part_no_powers c.args.leasts.now c.args.new_powers.now)) in
    let g = c.ranges.k.fits in
    record { fits = omega arith }

pub overflow_cast-result : goal.overflow_cast-result
overflow_cast-result c =
    let e : c.part_of.result ≡ part c.args.leasts.now no_powers c.args.new_powers.now = c.part_of.ensures.value in
    let f = small_product c.args.k c.part_of.result (subst (λ n. n ≤ 1) (sym e) (part_no_powers c.args.leasts.now c.args.new_powers.now)) in
    let g = c.ranges.k.fits in
    record { sfits = omega arith }

pub returns : goal.returns
returns c =
    let e : c.part_of.result ≡ part c.args.leasts.now no_powers c.args.new_powers.now = c.part_of.ensures.value in
    let f = small_product c.args.k c.part_of.result (subst (λ n. n ≤ 1) (sym e) (part_no_powers c.args.leasts.now c.args.new_powers.now)) in
    let g = c.ranges.k.fits in
    let n : to_z w128 (c.args.k * c.part_of.result) ≡ pos (c.args.k * c.part_of.result) = to_z_pos w128 (c.args.k * c.part_of.result) (omega arith) in
    let s : SFits w128 c.coefficient_of.result = search rules in
    let z = to_z-of_z w128 c.coefficient_of.result s in
    rw (n, z, e, c.coefficient_of.ensures.value)
    (sign_test c.args.k (part c.args.leasts.now no_powers c.args.new_powers.now) (shifted c.args.leasts.now c.args.monomials.now c.args.new_powers.now))
