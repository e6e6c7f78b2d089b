-- Steps of the code over lists.
use Rattle.std.proofs.Common.{◌≡◌, ℕ, zero, suc, ◌+◌, ◌-◌, ◌^◌, ◌≤◌, ◌<◌, List, [], ◌∷◌, ◌++◌, length, take, drop, get_or, set, ℤ, ◌*ℤ◌, refl, sym, ap, ◌∙◌, subst, arith}
use Rattle.std.specs.Prelude.{unsigned_abs}
use Rattle.std.proofs.Math.Seq.{take-length}
use Rattle.std.proofs.lemmas.Int.{unsigned_abs-mul, to_z-of_z, fits_signed_from_abs}
use mir.Syntax.{w128}
use mir.Val.{to_z, of_z}
use Rattle.std.proofs.lemmas.Nat.{mul-le}
use Rattle.size_arith.specs.declared.poly.Monomial.{Monomial}
use Rattle.size_arith.specs.Polynomial.{added, times, add_powers, total, AllSmall}
use Rattle.size_arith.proofs.Bounds.{room-added, room-times}

-- what stands after the first
pub rest_is : {A : Type 0} (x : A) (s : List A) → take (suc (length s) - 1) s ≡ s
rest_is x s = let e : suc (length s) - 1 ≡ length s = omega arith in ap (λ n. take n s) e ∙ take-length s

pub small_first : (b : ℕ) (s : List Monomial) (d : Monomial) → 1 ≤ length s → AllSmall b s → unsigned_abs (get_or s 0 d).coefficient ≤ b
small_first b [] d h a = absurd (omega arith)
small_first b (m ∷ s) d h a = a.0

pub room_after_rest : (by : Monomial) (s sum now : List Monomial) → 1 ≤ length s → unsigned_abs by.coefficient ≤ 2 ^ 33 → AllSmall (2 ^ 33) s → length s ≤ 32 → AllSmall (2 ^ 99) sum → now ≡ added by (take (length s - 1) (drop 1 s)) sum → AllSmall (2 ^ 100) now
room_after_rest by [] sum now h b a l t e = absurd (omega arith)
room_after_rest by (m ∷ s) sum now h b a l t e = subst (AllSmall (2 ^ 100)) (sym (e ∙ ap (λ r. added by r sum) (rest_is m s))) (room-added by s sum b a.1 (omega arith) t)

pub room_after_times : (p q now : List Monomial) → 1 ≤ length p → AllSmall (2 ^ 33) p → AllSmall (2 ^ 33) q → length p ≤ 32 → length q ≤ 32 → now ≡ times (take (length p - 1) (drop 1 p)) q → AllSmall (2 ^ 99) now
room_after_times [] q now h a b l k e = absurd (omega arith)
room_after_times (m ∷ p) q now h a b l k e = subst (AllSmall (2 ^ 99)) (sym (e ∙ ap (λ r. times r q) (rest_is m p))) (room-times p q a.1 b (omega arith) k)

product_small : (a b : ℤ) → unsigned_abs a ≤ 2 ^ 33 → unsigned_abs b ≤ 2 ^ 33 → unsigned_abs (a *ℤ b) ≤ 2 ^ 100
product_small a b h k = omega (arith, unsigned_abs-mul a b, mul-le (unsigned_abs a) (unsigned_abs b) (2 ^ 33) (2 ^ 33) h k)

-- a number that went to its bits and back
pub back : (z : ℤ) → unsigned_abs z ≤ 2 ^ 100 → to_z w128 (of_z w128 z) ≡ z
back z h = to_z-of_z w128 z (fits_signed_from_abs w128 z (omega arith))

pub product_small_back : (a b z : ℤ) → z ≡ to_z w128 (of_z w128 a) *ℤ to_z w128 (of_z w128 b) → unsigned_abs a ≤ 2 ^ 33 → unsigned_abs b ≤ 2 ^ 33 → unsigned_abs (to_z w128 (of_z w128 z)) ≤ 2 ^ 100
product_small_back a b z e h k =
    let f = back a (omega arith) in
    let g = back b (omega arith) in
    let s : z ≡ a *ℤ b = e ∙ ap (λ y. y *ℤ to_z w128 (of_z w128 b)) f ∙ ap (λ y. a *ℤ y) g in
    let l : unsigned_abs z ≤ 2 ^ 100 = subst (λ y. unsigned_abs y ≤ 2 ^ 100) (sym s) (product_small a b h k) in
    subst (λ y. unsigned_abs y ≤ 2 ^ 100) (sym (back z l)) l

power_at : (a : List ℕ) (i : ℕ) → get_or a i 0 ≤ total a
power_at [] i = omega arith
power_at (m ∷ a) zero = omega arith
power_at (m ∷ a) (suc i) = omega (arith, power_at a i)

kept_at : (a b : List ℕ) (i : ℕ) → length a ≡ length b → get_or (take i (add_powers a b) ++ drop i a) i 0 ≡ get_or a i 0
kept_at [] b zero e = refl
kept_at [] [] (suc i) e = refl
kept_at [] (y ∷ b) (suc i) e = absurd (omega arith)
kept_at (x ∷ a) [] i e = absurd (omega arith)
kept_at (x ∷ a) (y ∷ b) zero e = refl
kept_at (x ∷ a) (y ∷ b) (suc i) e = kept_at a b i (omega arith)

pub power_sum_low : (a b ps : List ℕ) (i : ℕ) → length a ≡ length b → total a ≤ 4 → total b ≤ 4 → ps ≡ take i (add_powers a b) ++ drop i a → get_or ps i 0 + get_or b i 0 ≤ 8
power_sum_low a b ps i e h k p = omega (arith, ap (λ q. get_or q i 0) p, kept_at a b i e, power_at a i, power_at b i)

set_next : (a b : List ℕ) (i : ℕ) → i < length a → length a ≡ length b → set (take i (add_powers a b) ++ drop i a) i (get_or (take i (add_powers a b) ++ drop i a) i 0 + get_or b i 0) ≡ take (suc i) (add_powers a b) ++ drop (suc i) a
set_next [] b i h e = absurd (omega arith)
set_next (x ∷ a) [] i h e = absurd (omega arith)
set_next (x ∷ a) (y ∷ b) zero h e = refl
set_next (x ∷ a) (y ∷ b) (suc i) h e = ap (λ s. (x + y) ∷ s) (set_next a b i (omega arith) (omega arith))

pub next_powers : (a b ps : List ℕ) (i j : ℕ) → i < length a → length a ≡ length b → j ≡ suc i → ps ≡ take i (add_powers a b) ++ drop i a → set ps i (get_or ps i 0 + get_or b i 0) ≡ take j (add_powers a b) ++ drop j a
next_powers a b ps i j h e f p = ap (λ q. set q i (get_or q i 0 + get_or b i 0)) p ∙ set_next a b i h e ∙ ap (λ k. take k (add_powers a b) ++ drop k a) (sym f)
