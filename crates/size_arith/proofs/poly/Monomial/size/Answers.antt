use Rattle.std.proofs.Common.{◌*ℤ◌, pos, ap, ◌∙◌, set, arith}
use Rattle.std.proofs.lemmas.Int.{to_z_pos}
use mir.Syntax.{w128}
use Rattle.size_arith.specs.Polynomial.{product, no_powers}
use Rattle.size_arith.proofs.Values.{total-size, product-size}
use Rattle.size_arith.proofs.poly.Monomial.size.Goals as goal

pub returns-clause-degree : goal.returns-clause-degree
returns-clause-degree c = total-size c.args.index c.requires

pub returns-clause-exact : goal.returns-clause-exact
returns-clause-exact c =
    let f = c.ranges.multiple.fits in
    let e = to_z_pos w128 c.args.multiple (omega arith) in
    λ ys h.
    ap (λ z. z *ℤ pos (product ys (set no_powers c.args.index 1))) e
    ∙ ap (λ n. pos c.args.multiple *ℤ pos n) (product-size ys c.args.index c.requires h)
