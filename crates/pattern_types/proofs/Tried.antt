-- What the tests of division decide.
use Rattle.std.proofs.Common.{◌≡◌, List, [], ◌∷◌, refl, ap, Bool, true, false, Some, None}
use Rattle.std.specs.Prelude.{IsTrue, ◌↔◌, IsSome, IfSome, IfOk, Result, Ok, Err, Option, if◌then◌else◌}
use Rattle.size_arith.specs.declared.poly.Monomial.{Monomial}
use Rattle.size_arith.specs.Polynomial.{AllDivide, quotient}
use Rattle.size_arith.proofs.Decisions.{decides_all_divide}
use Rattle.size_arith.specs.Decisions.{all_divide}
use Rattle.pattern_types.specs.Tests.{exact_quotient}

chosen : (b : Bool) (q : Option (List Monomial)) (P : Type 0) (x : List Monomial) → (IsSome q ↔ P) → (IsTrue b ↔ P) → IfSome q (λ r. r ≡ x) → q ≡ (if b then Some x else None)
chosen true (Some r) P x h e k = ap Some k
chosen true None P x h e k = let f : false ≡ true = h.1 (e.0 refl) in absurd (cc)
chosen false (Some r) P x h e k = let f : false ≡ true = e.1 (h.0 refl) in absurd (cc)
chosen false None P x h e k = refl

pub quotient_is : (q : Option (List Monomial)) (d : Monomial) (p : List Monomial) → (IsSome q ↔ AllDivide d p) → IfSome q (λ r. r ≡ quotient d p) → q ≡ exact_quotient (d ∷ []) p
quotient_is q d p h k = chosen (all_divide d p) q (AllDivide d p) (quotient d p) h (decides_all_divide d p) k

pub quotient_answers : {E : Type 0} (r : Result (Option (List Monomial)) E) (d : Monomial) (p : List Monomial) → IfOk r (λ q. IsSome q ↔ AllDivide d p) → IfOk r (λ q. IfSome q (λ x. x ≡ quotient d p)) → IfOk r (λ q. q ≡ exact_quotient (d ∷ []) p)
quotient_answers (Ok q) d p h k = quotient_is q d p h k
quotient_answers (Err e) d p h k = tt
