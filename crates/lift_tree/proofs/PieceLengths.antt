-- The lengths of pieces, rows and tiles.
use Rattle.std.proofs.Common.{◌≡◌, ℕ, zero, suc, ◌+◌, ◌*◌, ◌≤◌, ◌<◌, List, [], ◌∷◌, length, ℤ, pos, negsuc, ◌+ℤ◌, ◌*ℤ◌, ◌≤ℤ◌, refl, sym, ap, ◌∙◌, subst, arith, false}
use Rattle.std.specs.Prelude.{int_div}
use Rattle.std.proofs.lemmas.Int.{ints}
use Rattle.std.proofs.Math.IntN.{*ℤ_comm}
use Rattle.size_arith.specs.declared.names.Name.{Name}
use Rattle.size_arith.specs.declared.poly.Monomial.{Monomial}
use Rattle.size_arith.specs.Polynomial.{place, no_powers, add_powers, less_powers, number, is_zero, put, added, plus, minus, times, AllWide, AllAfter, IsCanonical, AllDivide, quotient}
use Rattle.size_arith.specs.Shown.{share, part, shifted, ShownAtLeast}
use Rattle.size_arith.specs.Ranges.{leasts}
use Rattle.size_arith.proofs.Integers.{one_times}
use Rattle.size_arith.proofs.Limits.{canonical-added, wide-added}
use Rattle.size_arith.proofs.Quotients.{quotient_times}
use Rattle.lift_tree.specs.Typing.{constant}
use Rattle.lift_tree.proofs.Linear.{AllZero, none, less-no_powers, coefficient_times, total_by, total-constant, total-added, total-quotient}

-- ---- what is kept of the form
pub wide-constant : (k : ℕ) → AllWide 8 (constant k)
wide-constant zero = tt
wide-constant (suc k) = (refl, tt)

pub canonical-constant : (k : ℕ) → IsCanonical (constant k)
canonical-constant zero = tt
canonical-constant (suc k) = (refl, tt, tt)

pub wide-quotient : (d : Monomial) (k : ℕ) (p : List Monomial) → d ≡ number (pos k) → AllWide 8 p → AllWide 8 (quotient d p)
wide-quotient d k [] e h = tt
wide-quotient d k (m ∷ p) e h = (ap (λ (x : Monomial). length (less_powers m.powers x.powers)) e ∙ ap length (less-no_powers m.powers) ∙ h.0, wide-quotient d k p e h.1)

not_zero : (k : ℕ) (c q : ℤ) → c ≡ pos k *ℤ q → is_zero c ≡ false → is_zero q ≡ false
not_zero k c (pos zero) e h =
    let z : c ≡ pos 0 = e ∙ times_zero k in
    let w = ap is_zero z in
    cc
  where
    times_zero : (k : ℕ) → pos k *ℤ pos 0 ≡ pos 0
    times_zero k = omega (arith, ints)
not_zero k c (pos (suc n)) e h = refl
not_zero k c (negsuc n) e h = refl

after-quotient : (k : ℕ) (ms : List ℕ) (p : List Monomial) → AllAfter ms p → AllAfter ms (quotient (number (pos k)) p)
after-quotient k ms [] h = tt
after-quotient k ms (m ∷ p) h = (ap (place ms) (less-no_powers m.powers) ∙ h.0, after-quotient k ms p h.1)

pub canonical-quotient : (k : ℕ) (p : List Monomial) → AllDivide (number (pos k)) p → IsCanonical p → IsCanonical (quotient (number (pos k)) p)
canonical-quotient k [] a c = tt
canonical-quotient k (m ∷ p) a c = (
  not_zero k m.coefficient (int_div m.coefficient (pos k)) (coefficient_times k m a.0) c.0,
  subst (λ ks. AllAfter ks (quotient (number (pos k)) p)) (sym (less-no_powers m.powers)) (after-quotient k m.powers p c.1),
  canonical-quotient k p a.1 c.2,
)

pub wide-minus : (n : List Monomial) (k : ℕ) → AllWide 8 n → AllWide 8 (minus n (constant k))
wide-minus n k h = wide-added (number (negsuc 0)) (constant k) n refl (wide-constant k) h

pub canonical-minus : (n : List Monomial) (k : ℕ) → IsCanonical n → IsCanonical (minus n (constant k))
canonical-minus n k h = canonical-added (number (negsuc 0)) (constant k) n h

pub wide-plus : (n : List Monomial) (k : ℕ) → AllWide 8 n → AllWide 8 (plus n (constant k))
wide-plus n k h = wide-added (number (pos 1)) (constant k) n refl (wide-constant k) h

-- ---- sums of sums, differences and products with a number
module _ (f : List ℕ → ℤ) where
  pub total-plus : (p : List Monomial) (k : ℕ) → total_by f (plus p (constant k)) ≡ total_by f p +ℤ (pos k *ℤ f no_powers)
  total-plus p k =
      let a = total-added f (pos 1) (constant k) p (wide-constant k) in
      let b = total-constant f k in
      omega (arith, ints)

  pub total-minus : (p : List Monomial) (k : ℕ) → total_by f (minus p (constant k)) +ℤ (pos k *ℤ f no_powers) ≡ total_by f p
  total-minus p k =
      let a = total-added f (negsuc 0) (constant k) p (wide-constant k) in
      let b = total-constant f k in
      omega (arith, ints)

add_comm : (ms ns : List ℕ) → add_powers ms ns ≡ add_powers ns ms
add_comm [] [] = refl
add_comm [] (n ∷ ns) = refl
add_comm (m ∷ ms) [] = refl
add_comm (m ∷ ms) (n ∷ ns) = let e : m + n ≡ n + m = omega arith in let d = add_comm ms ns in cc

-- a length times a number
pub times-constant : (k : ℕ) (q : List Monomial) → times q (number (pos k) ∷ []) ≡ added (number (pos k)) q []
times-constant k [] = refl
times-constant k (m ∷ q) =
    let a = *ℤ_comm m.coefficient (pos k) in
    let b = add_comm m.powers no_powers in
    let d = times-constant k q in
    ap (λ z. put z (add_powers m.powers no_powers) (times q (number (pos k) ∷ []))) a
    ∙ ap (λ ks. put (pos k *ℤ m.coefficient) ks (times q (number (pos k) ∷ []))) b
    ∙ ap (λ ps. put (pos k *ℤ m.coefficient) (add_powers no_powers m.powers) ps) d

some_constant : (k : ℕ) → 0 < k → constant k ≡ number (pos k) ∷ []
some_constant zero h = absurd (omega arith)
some_constant (suc k) h = refl

pub total-times : (f : List ℕ → ℤ) (q : List Monomial) (k : ℕ) → 0 < k → AllWide 8 q → total_by f (times q (constant k)) ≡ pos k *ℤ total_by f q
total-times f q k h w =
    let a = total-added f (pos k) q [] w in
    let b = ap (total_by f) (ap (times q) (some_constant k h) ∙ times-constant k q) in
    omega (arith, ints)

-- so many pieces of length k
pub pieces_length : (k : ℕ) (n : List Monomial) → 0 < k → IsCanonical n → AllDivide (number (pos k)) n → times (quotient (number (pos k)) n) (constant k) ≡ n
pieces_length k n h c d = ap (times (quotient (number (pos k)) n)) (some_constant k h) ∙ times-constant k (quotient (number (pos k)) n) ∙ quotient_times (number (pos k)) n c d

-- ---- what is shown, as sums
pub shifted_total : (ls js : List ℕ) (p : List Monomial) → shifted ls p js ≡ total_by (λ ms. pos (part ls ms js)) p
shifted_total ls js [] = refl
shifted_total ls js (m ∷ p) = ap (λ z. (m.coefficient *ℤ pos (part ls m.powers js)) +ℤ z) (shifted_total ls js p)

part_bit : (ls zs js : List ℕ) → AllZero zs → part ls zs js ≤ 1
part_bit [] zs js h = omega arith
part_bit (l ∷ ls) zs [] h = omega arith
part_bit (l ∷ ls) [] (zero ∷ js) h = omega (arith, part_bit ls [] js tt)
part_bit (l ∷ ls) [] (suc j ∷ js) h = omega arith
part_bit (l ∷ ls) (z ∷ zs) (j ∷ js) h = subst (λ m. share l m j * part ls zs js ≤ 1) (sym h.0) (go j (part_bit ls zs js h.1))
  where
    go : (j : ℕ) → part ls zs js ≤ 1 → share l 0 j * part ls zs js ≤ 1
    go zero r = omega arith
    go (suc j) r = omega arith

-- the pieces are one or more, where the length is
pub shown-quotient : (k : ℕ) (names : List Name) (n : List Monomial) → 0 < k → AllDivide (number (pos k)) n → ShownAtLeast 1 names n → ShownAtLeast 1 names (quotient (number (pos k)) n)
shown-quotient k names n h d s js e =
    let ls = leasts names in
    let b = part ls no_powers js in
    let f : List ℕ → ℤ = λ ms. pos (part ls ms js) in
    let q = quotient (number (pos k)) n in
    let a : shifted ls n js ≡ pos k *ℤ shifted ls q js = shifted_total ls js n ∙ total-quotient f k n d ∙ ap (λ z. pos k *ℤ z) (sym (shifted_total ls js q)) in
    go k b (shifted ls q js) h (part_bit ls no_powers js none) (subst (λ z. pos 0 ≤ℤ ((negsuc 0 *ℤ pos b) +ℤ z)) a (s js e))
  where
    go : (k b : ℕ) (z : ℤ) → 0 < k → b ≤ 1 → pos 0 ≤ℤ ((negsuc 0 *ℤ pos b) +ℤ (pos k *ℤ z)) → pos 0 ≤ℤ ((negsuc 0 *ℤ pos b) +ℤ z)
    go k b (pos zero) h l r = omega (arith, ints)
    go k b (pos (suc m)) h l r = omega (arith, ints)
    go k b (negsuc m) h l r = absurd (negative k b m h r)
      where
        negative : (k b m : ℕ) → 0 < k → pos 0 ≤ℤ ((negsuc 0 *ℤ pos b) +ℤ (pos k *ℤ negsuc m)) → ⊥
        negative k b m h r = omega (arith, ints)

pub shown-constant : (names : List Name) (k : ℕ) → 1 ≤ k → ShownAtLeast 1 names (constant k)
shown-constant names k h js e =
    let ls = leasts names in
    let f : List ℕ → ℤ = λ ms. pos (part ls ms js) in
    go (part ls no_powers js) (shifted ls (constant k) js) (shifted_total ls js (constant k) ∙ total-constant f k)
  where
    go : (b : ℕ) (z : ℤ) → z ≡ pos k *ℤ pos b → pos 0 ≤ℤ ((negsuc 0 *ℤ pos b) +ℤ z)
    go b z d = omega (arith, ints, more_le k b h)
      where
        more_le : (k b : ℕ) → 1 ≤ k → b ≤ k * b
        more_le k b h = grind arith

-- so many rows of one member each
pub shown-one : (names : List Name) (q : List Monomial) → AllWide 8 q → ShownAtLeast 1 names q → ShownAtLeast 1 names (times q (constant 1))
shown-one names q w s js e =
    let ls = leasts names in
    let f : List ℕ → ℤ = λ ms. pos (part ls ms js) in
    let a : shifted ls (times q (constant 1)) js ≡ shifted ls q js = shifted_total ls js (times q (constant 1)) ∙ total-times f q 1 (omega arith) w ∙ one_times (total_by f q) ∙ sym (shifted_total ls js q) in
    subst (λ z. pos 0 ≤ℤ ((negsuc 0 *ℤ pos (part ls no_powers js)) +ℤ z)) (sym a) (s js e)
