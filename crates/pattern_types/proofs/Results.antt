-- What an answer without refusal says.
use Rattle.std.proofs.Common.{◌≡◌, ℕ, ◌≤◌, List, [], ◌∷◌, length, refl, ap, subst, arith, Bool, true, false}
use Rattle.std.specs.Prelude.{IsTrue, Result, Ok, Err, if◌then◌else◌, nat_lt}
use Rattle.std.proofs.lemmas.Bool.Decides.{nat_tests}
use Rattle.size_arith.specs.declared.poly.Monomial.{Monomial}
use Rattle.size_arith.specs.declared.poly.PolyNo.{PolyNo}
use Rattle.size_arith.specs.declared.poly.PolyNo.TheVariants as no
use Rattle.size_arith.specs.Polynomial.{degree, greatest, limited, AllLow}
use Rattle.pattern_types.specs.declared.refusal.Rule.{Rule}
use Rattle.pattern_types.specs.declared.fault.Fault.{Fault}
use Rattle.pattern_types.specs.declared.fault.NodeFault.{NodeFault}
use Rattle.pattern_types.specs.Judged.{and_then, demand, faulty, within, here, under}

abbrev pub yes : {A : Type 0} (E : Type 0) → A → Result A E
yes E a = Ok a

pub and_ok : {A B E : Type 0} (r : Result A E) (f : A → Result B E) (b : B) → and_then r f ≡ Ok b → (a : A) × (r ≡ Ok a) × (f a ≡ Ok b)
and_ok (Ok a) f b h = (a, refl, h)
and_ok (Err e) f b h = absurd (cc)

pub here_ok : {A : Type 0} (r : Result A Fault) (a : A) → here r ≡ Ok a → r ≡ Ok a
here_ok (Ok b) a h = let e : b ≡ a = cc in ap Ok e
here_ok (Err e) a h = absurd (cc)

pub under_ok : {A : Type 0} (i : ℕ) (r : Result A NodeFault) (a : A) → under i r ≡ Ok a → r ≡ Ok a
under_ok i (Ok b) a h = h
under_ok i (Err e) a h = absurd (cc)

pub demand_ok : (b : Bool) (r : Rule) (u : Unit {0}) → demand b r ≡ Ok u → IsTrue b
demand_ok true r u h = refl
demand_ok false r u h = absurd (cc)

faulty_ok : (r : Result (List Monomial) PolyNo) (q : List Monomial) → faulty r ≡ Ok q → r ≡ Ok q
faulty_ok (Ok p) q h = cc
faulty_ok (Err no.Memory) q h = absurd (cc)
faulty_ok (Err (no.Terms n)) q h = absurd (cc)
faulty_ok (Err (no.Degree n)) q h = absurd (cc)
faulty_ok (Err (no.Coefficient n)) q h = absurd (cc)

picked : (a b c : Bool) (x y z : PolyNo) (p q : List Monomial) → (if a then Err x else (if b then Err y else (if c then Err z else Ok p))) ≡ Ok q → (p ≡ q) × (b ≡ false)
picked true b c x y z p q h = absurd (cc)
picked false true c x y z p q h = absurd (cc)
picked false false true x y z p q h = absurd (cc)
picked false false false x y z p q h = (cc, refl)

pub low_upto : (d : ℕ) (p : List Monomial) → degree p ≤ d → AllLow d p
low_upto d [] h = tt
low_upto d (m ∷ p) h = (omega arith, low_upto d p (omega arith))

pub within_ok : (p q : List Monomial) → within p ≡ Ok q → (p ≡ q) × AllLow 4 q
within_ok p q h =
    let r = picked (nat_lt 32 (length p)) (nat_lt 4 (degree p)) (nat_lt 4294967296 (greatest p)) _ _ _ p q (faulty_ok (limited p) q h) in
    (r.0, subst (AllLow 4) r.0 (low_upto 4 p (low r.1)))
  where
    low : nat_lt 4 (degree p) ≡ false → degree p ≤ 4
    low e = grind (arith, nat_tests)
