use Rattle.std.proofs.Common.{◌≡◌, pos, ◌≤ℤ◌, sym, subst, rules}
use Rattle.size_arith.specs.Polynomial.{value_at}
use Rattle.size_arith.specs.Shown.{largest}
use Rattle.size_arith.proofs.Soundness.{sound_largest}
use Rattle.size_arith.proofs.poly.Poly.largest.Goals as goal

pub returns-clause-sound : goal.returns-clause-sound
returns-clause-sound c =
    let e : c.largest_of.result ≡ largest c.args.names.now c.args.self.now = search rules in
    λ ys h. subst (λ n. value_at ys c.args.self.now ≤ℤ pos n) (sym e) (sound_largest c.args.names.now c.args.self.now ys c.as_slice.ensures.declared h)
