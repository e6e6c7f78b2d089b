-- What the tests of polynomials decide.
use Rattle.std.proofs.Common.{◌≡◌, ℕ, zero, suc, ◌-◌, ◌≤◌, List, [], ◌∷◌, length, refl, sym, ap, ◌∙◌, subst, arith, Bool, pos, negsuc, ℤ, inl, inr, true, false}
use Rattle.std.specs.Prelude.{IsTrue, ◌&&◌, ◌↔◌, ◌⊎◌, neg_ℤ, ◌≤ℤ◌, int_le, nat_eq, not, nat_le, int_rem}
use Rattle.std.specs.Ordering.{int_eq}
use Rattle.std.proofs.lemmas.Int.{ints}
use Rattle.std.proofs.lemmas.Bool.{and_parts, and_from, eqb-true, eq-eqb}
use Rattle.std.proofs.lemmas.Bool.Decides.{Decides-int_eq, same_from_decides, nat_tests}
use Rattle.size_arith.specs.declared.names.Name.{Name}
use Rattle.size_arith.specs.declared.poly.Monomial.{Monomial}
use Rattle.size_arith.specs.Polynomial.{number, is_zero, total, IsPoly, AllLow, AtMost, Divides, AllDivide}
use Rattle.size_arith.specs.Shown.{shifted, ShownAtLeast}
use Rattle.size_arith.specs.Ranges.{leasts}
use Rattle.size_arith.specs.Decisions.{all_upto, all_powers, is_shown, is_same, same_powers, are_at_most, divides, all_divide}
use Rattle.size_arith.proofs.Soundness.{tried_all, shown_all}
use Rattle.size_arith.proofs.Limits.{low_of}
use Rattle.size_arith.proofs.Ranges.{length-leasts}

pub decides_zero : (z : ℤ) → IsTrue (is_zero z) ↔ (z ≡ pos 0)
decides_zero (pos zero) = (λ h. refl, λ h. refl)
decides_zero (pos (suc n)) = (λ h. absurd (cc), λ h. absurd (cc))
decides_zero (negsuc n) = (λ h. absurd (cc), λ h. absurd (cc))

-- ---- what is shown
upto_or : (j k : ℕ) → j ≤ suc k → (j ≤ k) ⊎ (j ≡ suc k)
upto_or zero k l = inl (omega arith)
upto_or (suc j) zero l = inr (omega arith)
upto_or (suc j) (suc k) l = elim (upto_or j k (omega arith)) [ inl a ↦ inl (omega arith) | inr b ↦ inr (omega arith) ]

upto_all : (k : ℕ) (f : ℕ → Bool) → IsTrue (all_upto k f) → (j : ℕ) → j ≤ k → IsTrue (f j)
upto_all zero f h j l = let e : 0 ≡ j = omega arith in subst (λ i. IsTrue (f i)) e h
upto_all (suc k) f h j l =
    let p = and_parts (all_upto k f) (f (suc k)) h in
    elim (upto_or j k l) [ inl a ↦ upto_all k f p.0 j a | inr b ↦ subst (λ i. IsTrue (f i)) (sym b) p.1 ]

all_upto_from : (k : ℕ) (f : ℕ → Bool) → ((j : ℕ) → j ≤ k → IsTrue (f j)) → IsTrue (all_upto k f)
all_upto_from zero f h = h 0 (omega arith)
all_upto_from (suc k) f h = and_from (all_upto k f) (f (suc k)) (all_upto_from k f (λ j l. h j (omega arith))) (h (suc k) (omega arith))

powers_all : (n most : ℕ) (f : List ℕ → Bool) → IsTrue (all_powers n most f) → (js : List ℕ) → length js ≡ n → total js ≤ most → IsTrue (f js)
powers_all zero most f h [] e l = h
powers_all zero most f h (j ∷ js) e l = absurd (omega arith)
powers_all (suc n) most f h [] e l = absurd (omega arith)
powers_all (suc n) most f h (j ∷ js) e l =
    powers_all n (most - j) (λ ks. f (j ∷ ks)) (upto_all most (λ i. all_powers n (most - i) (λ ks. f (i ∷ ks))) h j (omega arith)) js (omega arith) (omega arith)

all_powers_from : (n most : ℕ) (f : List ℕ → Bool) → ((js : List ℕ) → length js ≡ n → total js ≤ most → IsTrue (f js)) → IsTrue (all_powers n most f)
all_powers_from zero most f h = h [] refl (omega arith)
all_powers_from (suc n) most f h =
    all_upto_from most (λ i. all_powers n (most - i) (λ ks. f (i ∷ ks))) (λ j l. all_powers_from n (most - j) (λ ks. f (j ∷ ks)) (λ js e t. h (j ∷ js) (omega arith) (omega arith)))

sign_is : (z : ℤ) → IsTrue (int_le (pos 0) z) → pos 0 ≤ℤ z
sign_is (pos n) h = omega (arith, ints)
sign_is (negsuc n) h = absurd (cc)

sign_from : (z : ℤ) → pos 0 ≤ℤ z → IsTrue (int_le (pos 0) z)
sign_from (pos n) h = grind (arith, ints)
sign_from (negsuc n) h = absurd (omega (arith, ints))

pub decides_shown : (k : ℕ) (names : List Name) (p : List Monomial) → AllLow 4 p → IsTrue (is_shown k names p) ↔ ShownAtLeast k names p
decides_shown k names p h =
    let f : List ℕ → Bool = λ js. int_le (pos 0) (shifted (leasts names) (number (neg_ℤ (pos k)) ∷ p) js) in (
      λ b. tried_all k names (leasts names) p (length names) refl (sym (length-leasts names)) h (λ js e t. sign_is _ (powers_all (length names) 4 f b js e t)),
      λ s. all_powers_from (length names) 4 f (λ js e t. sign_from _ (shown_all k names (leasts names) p (length names) refl (sym (length-leasts names)) s js e t)),
    )

pub shown_is : (b : Bool) (k : ℕ) (names : List Name) (p : List Monomial) → IsPoly p → (IsTrue b ↔ ShownAtLeast k names p) → b ≡ is_shown k names p
shown_is b k names p h e = same_from_decides b (is_shown k names p) e (decides_shown k names p (low_of p p refl h))

-- ---- what is the same
decides_powers : (ms ns : List ℕ) → IsTrue (same_powers ms ns) ↔ (ms ≡ ns)
decides_powers [] [] = (λ h. refl, λ h. refl)
decides_powers [] (n ∷ ns) = (λ h. absurd (cc), λ h. absurd (cc))
decides_powers (m ∷ ms) [] = (λ h. absurd (cc), λ h. absurd (cc))
decides_powers (m ∷ ms) (n ∷ ns) =
    let r = decides_powers ms ns in (
      λ h. let p = and_parts (nat_eq m n) (same_powers ms ns) h in let a = eqb-true m n p.0 in let b = r.0 p.1 in cc,
      λ h. and_from (nat_eq m n) (same_powers ms ns) (eq-eqb m n (let e : m ≡ n = cc in e)) (r.1 (let e : ms ≡ ns = cc in e)),
    )

abbrev monomial : ℤ → List ℕ → Monomial
monomial c ps = record { coefficient = c; powers = ps }

same_monomial : (m n : Monomial) → m.coefficient ≡ n.coefficient → m.powers ≡ n.powers → m ≡ n
same_monomial m n e f = ap (λ z. monomial z m.powers) e ∙ ap (λ ps. monomial n.coefficient ps) f

pub decides_same : (p q : List Monomial) → IsTrue (is_same p q) ↔ (p ≡ q)
decides_same [] [] = (λ h. refl, λ h. refl)
decides_same [] (n ∷ q) = (λ h. absurd (cc), λ h. absurd (cc))
decides_same (m ∷ p) [] = (λ h. absurd (cc), λ h. absurd (cc))
decides_same (m ∷ p) (n ∷ q) =
    let c = Decides-int_eq m.coefficient n.coefficient in
    let s = decides_powers m.powers n.powers in
    let r = decides_same p q in (
      λ h.
          let x = and_parts (int_eq m.coefficient n.coefficient) (same_powers m.powers n.powers && is_same p q) h in
          let y = and_parts (same_powers m.powers n.powers) (is_same p q) x.1 in
          let a = same_monomial m n (c.0 x.0) (s.0 y.0) in
          let b = r.0 y.1 in
          cc,
      λ h.
          let a : m ≡ n = cc in
          let b : p ≡ q = cc in
          and_from (int_eq m.coefficient n.coefficient) _ (c.1 (ap (λ (z : Monomial). z.coefficient) a)) (and_from (same_powers m.powers n.powers) (is_same p q) (s.1 (ap (λ (z : Monomial). z.powers) a)) (r.1 b)),
    )

pub same_is : (b : Bool) (p q : List Monomial) → (IsTrue b ↔ (p ≡ q)) → b ≡ is_same p q
same_is b p q h = same_from_decides b (is_same p q) h (decides_same p q)

-- ---- division without a rest
decides_at_most : (ms ns : List ℕ) → IsTrue (are_at_most ms ns) ↔ AtMost ms ns
decides_at_most [] ns = (λ h. tt, λ h. refl)
decides_at_most (m ∷ ms) [] = (λ h. absurd (cc), λ h. absurd h)
decides_at_most (m ∷ ms) (n ∷ ns) =
    let r = decides_at_most ms ns in (
      λ h. let p = and_parts (nat_le m n) (are_at_most ms ns) h in (le_of m n p.0, r.0 p.1),
      λ h. and_from (nat_le m n) (are_at_most ms ns) (of_le m n h.0) (r.1 h.1),
    )
  where
    le_of : (a b : ℕ) → IsTrue (nat_le a b) → a ≤ b
    le_of a b h = grind (arith, nat_tests)

    of_le : (a b : ℕ) → a ≤ b → IsTrue (nat_le a b)
    of_le a b h = grind (arith, nat_tests)

not_is : (b : Bool) → IsTrue (not b) ↔ (b ≡ false)
not_is true = (λ h. absurd (cc), λ h. absurd (cc))
not_is false = (λ h. refl, λ h. refl)

decides_divides : (d m : Monomial) → IsTrue (divides d m) ↔ Divides d m
decides_divides d m =
    let n = not_is (is_zero d.coefficient) in
    let z = decides_zero (int_rem m.coefficient d.coefficient) in
    let a = decides_at_most d.powers m.powers in (
      λ h.
          let p = and_parts (not (is_zero d.coefficient)) (is_zero (int_rem m.coefficient d.coefficient) && are_at_most d.powers m.powers) h in
          let q = and_parts (is_zero (int_rem m.coefficient d.coefficient)) (are_at_most d.powers m.powers) p.1 in
          record { divisor = n.0 p.0; coefficient = z.0 q.0; powers = a.0 q.1 },
      λ h. and_from (not (is_zero d.coefficient)) _ (n.1 h.divisor) (and_from (is_zero (int_rem m.coefficient d.coefficient)) _ (z.1 h.coefficient) (a.1 h.powers)),
    )

pub decides_all_divide : (d : Monomial) (p : List Monomial) → IsTrue (all_divide d p) ↔ AllDivide d p
decides_all_divide d [] = (λ h. tt, λ h. refl)
decides_all_divide d (m ∷ p) =
    let a = decides_divides d m in
    let r = decides_all_divide d p in (
      λ h. let q = and_parts (divides d m) (all_divide d p) h in (a.0 q.0, r.0 q.1),
      λ h. and_from (divides d m) (all_divide d p) (a.1 h.0) (r.1 h.1),
    )
