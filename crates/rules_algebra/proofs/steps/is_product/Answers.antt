use Rattle.std.proofs.Common.{◌≡◌, ◌++◌, List, subst}
use Rattle.std.specs.Prelude.{◌↔◌, IsTrue}
use Rattle.size_arith.specs.declared.poly.Monomial.{Monomial}
use Rattle.size_arith.specs.Polynomial.{of_monomial}
use Rattle.rules_algebra.proofs.Held.{product_same}
use Rattle.rules_algebra.proofs.steps.is_product.Goals as goal

pub returns : goal.returns
returns c =
    let names = c.args.names.now in
    let factors = c.args.first.now ++ c.args.second.now in
    let test = c.is_alone.result in
    let whole = subst (λ (n : List Monomial). IsTrue test ↔ (of_monomial c.product.result ≡ n)) c.as_slice.ensures.same c.is_alone.ensures in
    let is_held = subst (λ (m : Monomial). IsTrue test ↔ (of_monomial m ≡ c.args.length.now)) c.product.ensures whole in
    product_same names factors c.args.length.now test c.as_slice.ensures.poly is_held
