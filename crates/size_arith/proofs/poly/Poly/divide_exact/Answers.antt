use Rattle.std.proofs.Common.{◌≡◌, ◌^◌, ◌∙◌, ap, sym, subst, [], rules, arith}
use Rattle.size_arith.specs.Polynomial.{IsPoly, AllDivide, quotient, added}
use Rattle.size_arith.proofs.Limits.{small_of}
use Rattle.size_arith.proofs.Quotients.{poly-quotient, quotient_times}
use Rattle.size_arith.proofs.poly.Poly.divide_exact.Goals as goal

pub all_divide-requires : goal.all_divide-requires
all_divide-requires c = record { small = small_of (2 ^ 32) c.self.inside.monomials.items c.deref.result.now (omega arith) c.deref.ensures.value c.self.invariant }

pub quotients-requires-clause-small : goal.quotients-requires-clause-small
quotients-requires-clause-small c = small_of (2 ^ 32) c.self.inside.monomials.items c.deref-2.result.now (omega arith) c.deref-2.ensures.value c.self.invariant

pub invariant_of-result : goal.invariant_of-result
invariant_of-result c =
    let d = c.args.divisor.now in
    let p = c.args.self.now in
    let i : IsPoly p = subst IsPoly c.self.view_is c.self.invariant in
    let a : AllDivide d p = search rules in
    let e : c.in_ok-monomials.monomials.items ≡ quotient d p = search rules in
    subst IsPoly (sym e) (poly-quotient d p a i)

pub returns-clause-product : goal.returns-clause-product
returns-clause-product c =
    let d = c.args.divisor.now in
    let p = c.args.self.now in
    let i : IsPoly p = subst IsPoly c.self.view_is c.self.invariant in
    let a : AllDivide d p = search rules in
    let e : c.in_ok-monomials.monomials.items ≡ quotient d p = search rules in
    ap (λ q. added d q []) e ∙ quotient_times d p i.canonical a
