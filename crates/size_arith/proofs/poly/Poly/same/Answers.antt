use Rattle.std.proofs.Common.{◌≡◌, IsTrue, ◌↔◌, ap, subst, rules}
use Rattle.size_arith.specs.Polynomial.{IsPoly, coefficient}
use Rattle.size_arith.proofs.Maps.{same_map_same_list}
use Rattle.size_arith.proofs.Decisions.{same_is}
use Rattle.size_arith.proofs.poly.Poly.same.Goals as goal

pub returns-clause-test : goal.returns-clause-test
returns-clause-test c =
    let e : IsTrue c.are_same.result ↔ (c.args.self.now ≡ c.args.other.now) = search rules in
    same_is c.are_same.result c.args.self.now c.args.other.now e

pub returns-clause-map : goal.returns-clause-map
returns-clause-map c =
    let p = c.args.self.now in
    let q = c.args.other.now in
    let e : IsTrue c.are_same.result ↔ (p ≡ q) = search rules in
    let i : IsPoly p = subst IsPoly c.self.view_is c.self.invariant in
    let j : IsPoly q = subst IsPoly c.other.view_is c.other.invariant in
    (λ t ms. ap (λ r. coefficient r ms) (e.0 t), λ h. e.1 (same_map_same_list p q i.canonical j.canonical h))
