-- Exact division by a monomial.
use Rattle.std.proofs.Common.{◌≡◌, ℕ, zero, suc, ◌+◌, ◌-◌, ◌*◌, ◌≤◌, ◌<◌, List, [], ◌∷◌, ◌++◌, length, take, drop, get_or, set, ℤ, pos, negsuc, ◌*ℤ◌, refl, sym, ap, ◌∙◌, arith}
use Rattle.std.specs.Prelude.{unsigned_abs, int_div, false}
use Rattle.std.proofs.Math.Nat.{le-mul_of_pos_right}
use Rattle.std.proofs.lemmas.Int.{ints, quot-rem, unsigned_abs-mul}
use Rattle.std.proofs.lemmas.Bool.Decides.{nat_tests}
use Rattle.std.proofs.Math.IntN.{*ℤ_comm}
use Rattle.size_arith.specs.declared.poly.Monomial.{Monomial}
use Rattle.size_arith.specs.Polynomial.{value_at, monomial_at, Place, Before, Here, After, place, is_zero, placed, put, added, add_powers, less_powers, total, degree, greatest, AtMost, AllWide, AllAfter, IsCanonical, IsPoly, Divides, AllDivide, quotient}
use Rattle.size_arith.proofs.Finding.{on_some}
use Rattle.size_arith.proofs.Steps.{rest_is}
use Rattle.size_arith.proofs.Values.{value-added}

-- ---- the code's steps
kept_at : (a b : List ℕ) (i : ℕ) → length a ≡ length b → get_or (take i (less_powers a b) ++ drop i a) i 0 ≡ get_or a i 0
kept_at [] b zero e = refl
kept_at [] [] (suc i) e = refl
kept_at [] (y ∷ b) (suc i) e = absurd (omega arith)
kept_at (x ∷ a) [] i e = absurd (omega arith)
kept_at (x ∷ a) (y ∷ b) zero e = refl
kept_at (x ∷ a) (y ∷ b) (suc i) e = kept_at a b i (omega arith)

at_most_at : (b a : List ℕ) (i : ℕ) → AtMost b a → get_or b i 0 ≤ get_or a i 0
at_most_at [] a i h = omega arith
at_most_at (y ∷ b) [] i h = absurd h
at_most_at (y ∷ b) (x ∷ a) zero h = h.0
at_most_at (y ∷ b) (x ∷ a) (suc i) h = at_most_at b a i h.1

pub power_left : (a b ps : List ℕ) (i : ℕ) → length a ≡ length b → AtMost b a → ps ≡ take i (less_powers a b) ++ drop i a → get_or b i 0 ≤ get_or ps i 0
power_left a b ps i e h p = omega (arith, ap (λ q. get_or q i 0) p, kept_at a b i e, at_most_at b a i h)

set_next : (a b : List ℕ) (i : ℕ) → i < length a → length a ≡ length b → set (take i (less_powers a b) ++ drop i a) i (get_or (take i (less_powers a b) ++ drop i a) i 0 - get_or b i 0) ≡ take (suc i) (less_powers a b) ++ drop (suc i) a
set_next [] b i h e = absurd (omega arith)
set_next (x ∷ a) [] i h e = absurd (omega arith)
set_next (x ∷ a) (y ∷ b) zero h e = refl
set_next (x ∷ a) (y ∷ b) (suc i) h e = ap (λ s. (x - y) ∷ s) (set_next a b i (omega arith) (omega arith))

pub next_left : (a b ps : List ℕ) (i j : ℕ) → i < length a → length a ≡ length b → j ≡ suc i → ps ≡ take i (less_powers a b) ++ drop i a → set ps i (get_or ps i 0 - get_or b i 0) ≡ take j (less_powers a b) ++ drop j a
next_left a b ps i j h e f p = ap (λ q. set q i (get_or q i 0 - get_or b i 0)) p ∙ set_next a b i h e ∙ ap (λ k. take k (less_powers a b) ++ drop k a) (sym f)

pub divides_at : (d : Monomial) (p : List Monomial) (i : ℕ) (e : Monomial) → i < length p → AllDivide d p → Divides d (get_or p i e)
divides_at d [] i e h a = absurd (omega arith)
divides_at d (m ∷ p) zero e h a = a.0
divides_at d (m ∷ p) (suc i) e h a = divides_at d p i e (omega arith) a.1

-- ---- the quotient times the divisor
coefficient_times : (d m : Monomial) → Divides d m → d.coefficient *ℤ int_div m.coefficient d.coefficient ≡ m.coefficient
coefficient_times d m h =
    let q = quot-rem m.coefficient d.coefficient in
    let r = h.coefficient in
    let c = *ℤ_comm (int_div m.coefficient d.coefficient) d.coefficient in
    omega (arith, ints)

powers_times : (ds ms : List ℕ) → AtMost ds ms → add_powers ds (less_powers ms ds) ≡ ms
powers_times [] [] h = refl
powers_times [] (m ∷ ms) h = refl
powers_times (d ∷ ds) [] h = absurd h
powers_times (d ∷ ds) (m ∷ ms) h =
    let a = h.0 in
    let e : d + (m - d) ≡ m = omega arith in
    let r = powers_times ds ms h.1 in
    cc

put_front : (m : Monomial) (p : List Monomial) → is_zero m.coefficient ≡ false → AllAfter m.powers p → put m.coefficient m.powers p ≡ m ∷ p
put_front m [] z a = on_some m.coefficient m.powers [] z
put_front m (x ∷ p) z a = at (place m.powers x.powers) a.0
  where
    at : (q : Place) → q ≡ Before → placed q m.coefficient m.powers x p (put m.coefficient m.powers p) ≡ m ∷ x ∷ p
    at Before e = on_some m.coefficient m.powers (x ∷ p) z
    at Here e = cc
    at After e = cc

pub quotient_times : (d : Monomial) (p : List Monomial) → IsCanonical p → AllDivide d p → added d (quotient d p) [] ≡ p
quotient_times d [] c h = refl
quotient_times d (m ∷ p) c h =
    let r = quotient_times d p c.2 h.1 in
    let a = coefficient_times d m h.0 in
    let b = powers_times d.powers m.powers h.0.powers in
    ap (λ q. put (d.coefficient *ℤ int_div m.coefficient d.coefficient) (add_powers d.powers (less_powers m.powers d.powers)) q) r
    ∙ ap (λ z. put z (add_powers d.powers (less_powers m.powers d.powers)) p) a
    ∙ ap (λ ks. put m.coefficient ks p) b
    ∙ put_front m p c.0 c.1

-- ---- the quotient is a polynomial
not_zero : (c q d : ℤ) → d *ℤ q ≡ c → is_zero c ≡ false → is_zero q ≡ false
not_zero c (pos zero) d e h =
    let z : c ≡ pos 0 = sym e ∙ times_zero d in
    let w = ap is_zero z in
    cc
  where
    times_zero : (d : ℤ) → d *ℤ pos 0 ≡ pos 0
    times_zero d = omega (arith, ints)
not_zero c (pos (suc n)) d e h = refl
not_zero c (negsuc n) d e h = refl

abs_some : (d : ℤ) → is_zero d ≡ false → 1 ≤ unsigned_abs d
abs_some (pos zero) h = cc
abs_some (pos (suc n)) h = omega arith
abs_some (negsuc n) h = omega arith

abs_quotient : (d m : Monomial) → Divides d m → unsigned_abs (int_div m.coefficient d.coefficient) ≤ unsigned_abs m.coefficient
abs_quotient d m h =
    let q = int_div m.coefficient d.coefficient in
    let a = ap unsigned_abs (coefficient_times d m h) in
    let b = unsigned_abs-mul d.coefficient q in
    let e = le-mul_of_pos_right (unsigned_abs q) (abs_some d.coefficient h.divisor) in
    let f : unsigned_abs d.coefficient * unsigned_abs q ≡ unsigned_abs q * unsigned_abs d.coefficient = omega arith in
    omega arith

place_less : (a b ds : List ℕ) → AtMost ds a → AtMost ds b → place (less_powers a ds) (less_powers b ds) ≡ place a b
place_less [] [] ds h k = refl
place_less [] (y ∷ b) [] h k = refl
place_less [] (y ∷ b) (d ∷ ds) h k = absurd h
place_less (x ∷ a) [] [] h k = refl
place_less (x ∷ a) [] (d ∷ ds) h k = absurd k
place_less (x ∷ a) (y ∷ b) [] h k = refl
place_less (x ∷ a) (y ∷ b) (d ∷ ds) h k = at (place_less a b ds h.1 k.1)
  where
    at : place (less_powers a ds) (less_powers b ds) ≡ place a b → place (less_powers (x ∷ a) (d ∷ ds)) (less_powers (y ∷ b) (d ∷ ds)) ≡ place (x ∷ a) (y ∷ b)
    at r = let p = h.0 in let q = k.0 in grind (arith, nat_tests)

after_quotient : (d : Monomial) (ms : List ℕ) (p : List Monomial) → AtMost d.powers ms → AllDivide d p → AllAfter ms p → AllAfter (less_powers ms d.powers) (quotient d p)
after_quotient d ms [] h a f = tt
after_quotient d ms (m ∷ p) h a f = (place_less ms m.powers d.powers h a.0.powers ∙ f.0, after_quotient d ms p h a.1 f.1)

canonical-quotient : (d : Monomial) (p : List Monomial) → AllDivide d p → IsCanonical p → IsCanonical (quotient d p)
canonical-quotient d [] a c = tt
canonical-quotient d (m ∷ p) a c = (
  not_zero m.coefficient (int_div m.coefficient d.coefficient) d.coefficient (coefficient_times d m a.0) c.0,
  after_quotient d m.powers p a.0.powers a.1 c.1,
  canonical-quotient d p a.1 c.2,
)

length-less_powers : (ms ds : List ℕ) → length (less_powers ms ds) ≡ length ms
length-less_powers [] ds = refl
length-less_powers (m ∷ ms) [] = refl
length-less_powers (m ∷ ms) (d ∷ ds) = ap suc (length-less_powers ms ds)

total-less_powers : (ms ds : List ℕ) → total (less_powers ms ds) ≤ total ms
total-less_powers [] ds = omega arith
total-less_powers (m ∷ ms) [] = omega arith
total-less_powers (m ∷ ms) (d ∷ ds) = omega (arith, total-less_powers ms ds)

wide-quotient : (w : ℕ) (d : Monomial) (p : List Monomial) → AllWide w p → AllWide w (quotient d p)
wide-quotient w d [] h = tt
wide-quotient w d (m ∷ p) h = (length-less_powers m.powers d.powers ∙ h.0, wide-quotient w d p h.1)

length-quotient : (d : Monomial) (p : List Monomial) → length (quotient d p) ≡ length p
length-quotient d [] = refl
length-quotient d (m ∷ p) = ap suc (length-quotient d p)

degree-quotient : (d : Monomial) (p : List Monomial) → degree (quotient d p) ≤ degree p
degree-quotient d [] = omega arith
degree-quotient d (m ∷ p) = omega (arith, total-less_powers m.powers d.powers, degree-quotient d p)

greatest-quotient : (d : Monomial) (p : List Monomial) → AllDivide d p → greatest (quotient d p) ≤ greatest p
greatest-quotient d [] a = omega arith
greatest-quotient d (m ∷ p) a = omega (arith, abs_quotient d m a.0, greatest-quotient d p a.1)

pub poly-quotient : (d : Monomial) (p : List Monomial) → AllDivide d p → IsPoly p → IsPoly (quotient d p)
poly-quotient d p a i = record {
  canonical = canonical-quotient d p a i.canonical;
  wide = wide-quotient 8 d p i.wide;
  terms = omega (arith, length-quotient d p, i.terms);
  degree = omega (arith, degree-quotient d p, i.degree);
  coefficients = omega (arith, greatest-quotient d p a, i.coefficients);
}

-- ---- the same list
pub same_lists : {A : Type 0} (s t : List A) (d e : A) → 1 ≤ length s → 1 ≤ length t → get_or s 0 d ≡ get_or t 0 e → take (length s - 1) (drop 1 s) ≡ take (length t - 1) (drop 1 t) → s ≡ t
same_lists [] t d e h k f g = absurd (omega arith)
same_lists (x ∷ s) [] d e h k f g = absurd (omega arith)
same_lists (x ∷ s) (y ∷ t) d e h k f g = λ i. f i ∷ (sym (rest_is x s) ∙ g ∙ rest_is y t) i

-- the value is the divisor's times the quotient's
pub value-quotient : (ys : List ℕ) (d : Monomial) (p : List Monomial) → IsCanonical p → AllDivide d p → value_at ys p ≡ monomial_at ys d *ℤ value_at ys (quotient d p)
value-quotient ys d p c h =
    let a = ap (value_at ys) (quotient_times d p c h) in
    let b = value-added ys d (quotient d p) [] in
    omega (arith, ints)
