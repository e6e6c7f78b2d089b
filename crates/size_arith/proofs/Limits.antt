-- What a polynomial within its limits is, and what sums and products keep.
use Rattle.std.proofs.Common.{◌≡◌, ℕ, zero, suc, ◌^◌, ◌≤◌, List, [], ◌∷◌, length, ℤ, pos, negsuc, ◌+ℤ◌, ◌*ℤ◌, refl, ap, sym, subst, arith, max, inl, inr}
use Rattle.std.specs.Prelude.{unsigned_abs, Bool, true, false, nat_lt, if◌then◌else◌, Result, Ok, Err, IfOk}
use Rattle.size_arith.specs.declared.poly.PolyNo.{PolyNo}
use Rattle.size_arith.specs.declared.poly.PolyNo.TheVariants.{Terms, Degree, Coefficient}
use Rattle.size_arith.specs.declared.poly.Monomial.{Monomial}
use Rattle.size_arith.specs.Polynomial.{Place, Before, Here, After, place, on, placed, put, added, times, add_powers, total, degree, greatest, AllSmall, AllLow, AllWide, IsCanonical, IsPoly, limited, Answers}
use Rattle.size_arith.proofs.Bounds.{small_more}
use Rattle.size_arith.proofs.Maps.{canonical-put}

small_greatest : (p : List Monomial) → AllSmall (greatest p) p
small_greatest [] = tt
small_greatest (m ∷ p) = (omega arith, small_more (greatest p) (max (unsigned_abs m.coefficient) (greatest p)) p (omega arith) (small_greatest p))

low_more : (a b : ℕ) (p : List Monomial) → a ≤ b → AllLow a p → AllLow b p
low_more a b [] h s = tt
low_more a b (m ∷ p) h s = (omega (arith, s.0), low_more a b p h s.1)

pub low_degree : (p : List Monomial) → AllLow (degree p) p
low_degree [] = tt
low_degree (m ∷ p) = (omega arith, low_more (degree p) (max (total m.powers) (degree p)) p (omega arith) (low_degree p))

pub small_of : (b : ℕ) (p q : List Monomial) → 2 ^ 32 ≤ b → q ≡ p → IsPoly p → AllSmall b q
small_of b p q h e i = rw e (small_more (greatest p) b p (let c = i.coefficients in omega arith) (small_greatest p))

pub low_of : (p q : List Monomial) → q ≡ p → IsPoly p → AllLow 4 q
low_of p q e i = rw e (low_more (degree p) 4 p i.degree (low_degree p))

pub canonical-added : (by : Monomial) (p sum : List Monomial) → IsCanonical sum → IsCanonical (added by p sum)
canonical-added by [] sum h = h
canonical-added by (m ∷ p) sum h = canonical-put (by.coefficient *ℤ m.coefficient) (add_powers by.powers m.powers) (added by p sum) (canonical-added by p sum h)

pub canonical-times : (p q : List Monomial) → IsCanonical (times p q)
canonical-times [] q = tt
canonical-times (m ∷ p) q = canonical-added m q (times p q) (canonical-times p q)

wide-on : (w : ℕ) (c : ℤ) (ms : List ℕ) (p : List Monomial) → length ms ≡ w → AllWide w p → AllWide w (on c ms p)
wide-on w (pos zero) ms p h s = s
wide-on w (pos (suc n)) ms p h s = (h, s)
wide-on w (negsuc n) ms p h s = (h, s)

wide-put : (w : ℕ) (c : ℤ) (ms : List ℕ) (p : List Monomial) → length ms ≡ w → AllWide w p → AllWide w (put c ms p)
wide-put w c ms [] h s = wide-on w c ms [] h tt
wide-put w c ms (m ∷ p) h s = at (place ms m.powers) (wide-put w c ms p h s.1)
  where
    at : (q : Place) → AllWide w (put c ms p) → AllWide w (placed q c ms m p (put c ms p))
    at Before ih = wide-on w c ms (m ∷ p) h s
    at Here ih = wide-on w (c +ℤ m.coefficient) ms p h s.1
    at After ih = (s.0, ih)

length-add_powers : (ms ns : List ℕ) → length ms ≡ length ns → length (add_powers ms ns) ≡ length ns
length-add_powers [] ns e = refl
length-add_powers (m ∷ ms) [] e = e
length-add_powers (m ∷ ms) (n ∷ ns) e = ap suc (length-add_powers ms ns (omega arith))

pub wide-added : (by : Monomial) (p sum : List Monomial) → length by.powers ≡ 8 → AllWide 8 p → AllWide 8 sum → AllWide 8 (added by p sum)
wide-added by [] sum h s t = t
wide-added by (m ∷ p) sum h s t =
    let a = s.0 in
    wide-put 8 (by.coefficient *ℤ m.coefficient) (add_powers by.powers m.powers) (added by p sum)
    (omega (arith, length-add_powers by.powers m.powers (omega arith)))
    (wide-added by p sum h s.1 t)

pub wide-times : (p q : List Monomial) → AllWide 8 p → AllWide 8 q → AllWide 8 (times p q)
wide-times [] q s t = tt
wide-times (m ∷ p) q s t = wide-added m q (times p q) s.0 t (wide-times p q s.1 t)

limited_keeps : (P : List Monomial → Type 0) (p : List Monomial) → P p → IfOk (limited p) P
limited_keeps P p h = at (nat_lt 32 (length p)) (nat_lt 4 (degree p)) (nat_lt 4294967296 (greatest p))
  where
    at : (a b c : Bool) → IfOk (if a then Err (Terms (length p)) else (if b then Err (Degree (degree p)) else (if c then Err (Coefficient (greatest p)) else Ok p))) P
    at true b c = tt
    at false true c = tt
    at false false true = tt
    at false false false = h

-- what holds of the polynomial holds of an answer
pub answer_keeps : (P : List Monomial → Type 0) (r : Result (List Monomial) PolyNo) (p : List Monomial) → Answers r p → P p → IfOk r P
answer_keeps P r p (inl e) h = subst (λ s. IfOk s P) (sym e) tt
answer_keeps P r p (inr e) h = subst (λ s. IfOk s P) (sym e) (limited_keeps P p h)
