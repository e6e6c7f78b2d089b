use Rattle.std.proofs.Common.{◌≡◌, ℕ, List, ◌*ℤ◌, rules, inr}
use Rattle.size_arith.specs.declared.poly.Monomial.{Monomial}
use Rattle.size_arith.specs.Polynomial.{times, limited, value_at}
use Rattle.size_arith.proofs.Values.{value-times}
use Rattle.size_arith.proofs.Limits.{answer_keeps}
use Rattle.size_arith.proofs.poly.Poly.mul.Goals as goal

pub returns-clause-exact : goal.returns-clause-exact
returns-clause-exact c =
    let p = c.args.self.now in
    let q = c.args.other.now in
    let e : c.limited.result ≡ limited (times p q) = search rules in
    answer_keeps (λ (r : List Monomial). (ys : List ℕ) → value_at ys r ≡ value_at ys p *ℤ value_at ys q) c.limited.result (times p q) (inr e) (λ ys. value-times ys p q)
