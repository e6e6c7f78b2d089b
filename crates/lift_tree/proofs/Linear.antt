-- Sums over a polynomial's monomials: values, coefficients and what is shown are such sums.
use Rattle.std.proofs.Common.{◌≡◌, ℕ, zero, suc, ◌+◌, ◌-◌, List, [], ◌∷◌, length, ℤ, pos, negsuc, ◌+ℤ◌, ◌*ℤ◌, refl, sym, ap, ◌∙◌, arith}
use Rattle.std.specs.Prelude.{int_div}
use Rattle.std.proofs.lemmas.Int.{ints, quot-rem}
use Rattle.size_arith.specs.declared.poly.Monomial.{Monomial}
use Rattle.size_arith.specs.Polynomial.{Place, Before, Here, After, place, no_powers, add_powers, less_powers, AtMost, number, on, placed, put, added, AllWide, Divides, AllDivide, quotient}
use Rattle.size_arith.proofs.Values.{place_here}
use borrow.Author.Differences.{product_is, same_in}
use Rattle.std.proofs.Math.IntN.{*ℤ_comm}
use Rattle.size_arith.proofs.Integers.{add_mul, mul_add}
use Rattle.lift_tree.specs.Typing.{constant}

-- ---- powers that are all 0
abbrev pub AllZero : List ℕ → Type 0
AllZero [] = Unit {0}
AllZero (m ∷ ms) = (m ≡ 0) × AllZero ms

pub none : AllZero no_powers
none = (refl, (refl, (refl, (refl, (refl, (refl, (refl, (refl, tt))))))))

zeros_at_most : (zs ms : List ℕ) → AllZero zs → length ms ≡ length zs → AtMost zs ms
zeros_at_most [] ms h e = tt
zeros_at_most (z ∷ zs) [] h e = absurd (omega arith)
zeros_at_most (z ∷ zs) (m ∷ ms) h e = let a = h.0 in (omega arith, zeros_at_most zs ms h.1 (omega arith))

pub no_powers_at_most : (ms : List ℕ) → length ms ≡ 8 → AtMost no_powers ms
no_powers_at_most ms e = zeros_at_most no_powers ms none e

add_zeros : (zs ms : List ℕ) → AllZero zs → length ms ≡ length zs → add_powers zs ms ≡ ms
add_zeros [] ms h e = refl
add_zeros (z ∷ zs) [] h e = absurd (omega arith)
add_zeros (z ∷ zs) (m ∷ ms) h e =
    let a = h.0 in
    let b : z + m ≡ m = omega arith in
    let r = add_zeros zs ms h.1 (omega arith) in
    cc

pub add-no_powers : (ms : List ℕ) → length ms ≡ 8 → add_powers no_powers ms ≡ ms
add-no_powers ms e = add_zeros no_powers ms none e

less_zeros : (ms zs : List ℕ) → AllZero zs → less_powers ms zs ≡ ms
less_zeros [] zs h = refl
less_zeros (m ∷ ms) [] h = refl
less_zeros (m ∷ ms) (z ∷ zs) h =
    let a = h.0 in
    let b : m - z ≡ m = omega arith in
    let r = less_zeros ms zs h.1 in
    cc

pub less-no_powers : (ms : List ℕ) → less_powers ms no_powers ≡ ms
less-no_powers ms = less_zeros ms no_powers none

-- ---- products of whole numbers
pub mul_three : (a b c : ℤ) → (a *ℤ b) *ℤ c ≡ a *ℤ (b *ℤ c)
mul_three a b c =
    let e = product_is a b in
    let f = product_is b c in
    let h = product_is (a *ℤ b) c in
    let k = product_is a (b *ℤ c) in
    let u = rw (e.0, e.1) at h.0 in
    let v = rw (e.0, e.1) at h.1 in
    let w = rw (f.0, f.1) at k.0 in
    let x = rw (f.0, f.1) at k.1 in
    omega (arith, same_in)

pub coefficient_times : (k : ℕ) (m : Monomial) → Divides (number (pos k)) m → m.coefficient ≡ pos k *ℤ int_div m.coefficient (pos k)
coefficient_times k m h =
    let e = quot-rem m.coefficient (pos k) in
    let r = h.coefficient in
    let c = *ℤ_comm (int_div m.coefficient (pos k)) (pos k) in
    omega (arith, ints)

-- ---- sums
abbrev pub total_by : (List ℕ → ℤ) → List Monomial → ℤ
total_by f [] = pos 0
total_by f (m ∷ p) = (m.coefficient *ℤ f m.powers) +ℤ total_by f p

module _ (f : List ℕ → ℤ) where
  total-on : (c : ℤ) (ms : List ℕ) (p : List Monomial) → total_by f (on c ms p) ≡ (c *ℤ f ms) +ℤ total_by f p
  total-on (pos zero) ms p = omega (arith, ints)
  total-on (pos (suc n)) ms p = refl
  total-on (negsuc n) ms p = refl

  pub total-put : (c : ℤ) (ms : List ℕ) (p : List Monomial) → total_by f (put c ms p) ≡ (c *ℤ f ms) +ℤ total_by f p
  total-put c ms [] = total-on c ms []
  total-put c ms (m ∷ p) = at (place ms m.powers) refl (total-put c ms p)
    where
      at : (q : Place) → place ms m.powers ≡ q → total_by f (put c ms p) ≡ (c *ℤ f ms) +ℤ total_by f p → total_by f (placed q c ms m p (put c ms p)) ≡ (c *ℤ f ms) +ℤ total_by f (m ∷ p)
      at Before h ih = total-on c ms (m ∷ p)
      at Here h ih =
          let s = total-on (c +ℤ m.coefficient) ms p in
          let d = add_mul c m.coefficient (f ms) in
          let w = ap (λ ks. m.coefficient *ℤ f ks) (place_here ms m.powers h) in
          omega (arith, ints)
      at After h ih = omega (arith, ints)

  pub total-constant : (k : ℕ) → total_by f (constant k) ≡ pos k *ℤ f no_powers
  total-constant k = let a = total-put (pos k) no_powers [] in omega (arith, ints)

  -- a number times the polynomial, added to another
  pub total-added : (c : ℤ) (p sum : List Monomial) → AllWide 8 p → total_by f (added (number c) p sum) ≡ (c *ℤ total_by f p) +ℤ total_by f sum
  total-added c [] sum w = omega (arith, ints)
  total-added c (m ∷ p) sum w =
      let a = total-put (c *ℤ m.coefficient) (add_powers no_powers m.powers) (added (number c) p sum) in
      let b = ap (λ ks. (c *ℤ m.coefficient) *ℤ f ks) (add-no_powers m.powers w.0) in
      let d = mul_three c m.coefficient (f m.powers) in
      let e = mul_add c (m.coefficient *ℤ f m.powers) (total_by f p) in
      omega (arith, ints, total-added c p sum w.1)

  -- a number times the quotient by it
  pub total-quotient : (k : ℕ) (p : List Monomial) → AllDivide (number (pos k)) p → total_by f p ≡ pos k *ℤ total_by f (quotient (number (pos k)) p)
  total-quotient k [] h = omega (arith, ints)
  total-quotient k (m ∷ p) h =
      let q = int_div m.coefficient (pos k) in
      ap (λ z. (z *ℤ f m.powers) +ℤ total_by f p) (coefficient_times k m h.0)
      ∙ ap (λ z. z +ℤ total_by f p) (mul_three (pos k) q (f m.powers))
      ∙ ap (λ z. (pos k *ℤ (q *ℤ f m.powers)) +ℤ z) (total-quotient k p h.1)
      ∙ sym (mul_add (pos k) (q *ℤ f m.powers) (total_by f (quotient (number (pos k)) p)))
      ∙ ap (λ ks. pos k *ℤ ((q *ℤ f ks) +ℤ total_by f (quotient (number (pos k)) p))) (sym (less-no_powers m.powers))
