-- The sign of a polynomial's coefficient, and the lists of powers that are tried.
use Rattle.std.proofs.Common.{◌≡◌, ℕ, zero, suc, ◌-◌, ◌*◌, ◌≤◌, ◌<◌, List, [], ◌∷◌, ◌++◌, length, ℤ, pos, ◌+ℤ◌, ◌*ℤ◌, ◌≤ℤ◌, refl, sym, subst, arith}
use Rattle.std.specs.Prelude.{neg_ℤ, IsTrue, true}
use Rattle.std.proofs.lemmas.Int.{ints}
use Rattle.std.proofs.lemmas.Nat.{mul-le}
use lib.Signed.{le_z}
use Rattle.size_arith.specs.Polynomial.{no_powers, total}
use Rattle.size_arith.specs.Shown.{share, part}
use Rattle.size_arith.specs.Code.{AllExtended}
use Rattle.size_arith.proofs.Values.{AllZero}

pub neg_times : (k n : ℕ) → neg_ℤ (pos k) *ℤ pos n ≡ neg_ℤ (pos (k * n))
neg_times zero n = omega (arith, ints)
neg_times (suc k) n = refl

pub sign_test : (k n : ℕ) (z : ℤ) → (IsTrue (le_z (pos (k * n)) z) → pos 0 ≤ℤ ((neg_ℤ (pos k) *ℤ pos n) +ℤ z)) × (pos 0 ≤ℤ ((neg_ℤ (pos k) *ℤ pos n) +ℤ z) → IsTrue (le_z (pos (k * n)) z))
sign_test k n z = let e = neg_times k n in (λ h. rw e (to (k * n) h), λ h. from (k * n) (rw e at h))
  where
    to : (m : ℕ) → le_z (pos m) z ≡ true → pos 0 ≤ℤ (neg_ℤ (pos m) +ℤ z)
    to m h = omega (arith, ints)

    from : (m : ℕ) → pos 0 ≤ℤ (neg_ℤ (pos m) +ℤ z) → le_z (pos m) z ≡ true
    from m h = grind (arith, ints)

share_none : (l j : ℕ) → share l 0 j ≤ 1
share_none l zero = omega arith
share_none l (suc j) = omega arith

part_zeros : (ls ms js : List ℕ) → AllZero ms → part ls ms js ≤ 1
part_zeros [] ms js z = omega arith
part_zeros (l ∷ ls) ms [] z = omega arith
part_zeros (l ∷ ls) [] (j ∷ js) z = mul-le (share l 0 j) (part ls [] js) 1 1 (share_none l j) (part_zeros ls [] js z)
part_zeros (l ∷ ls) (m ∷ ms) (j ∷ js) z = mul-le (share l m j) (part ls ms js) 1 1 (subst (λ n. share l n j ≤ 1) (sym z.0) (share_none l j)) (part_zeros ls ms js z.1)

pub part_no_powers : (ls js : List ℕ) → part ls no_powers js ≤ 1
part_no_powers ls js = part_zeros ls no_powers js (refl, (refl, (refl, (refl, (refl, (refl, (refl, (refl, tt))))))))

pub small_product : (k n : ℕ) → n ≤ 1 → k * n ≤ k
small_product k n h = omega (arith, mul-le k n k 1 (omega arith) h)

pub all_from_first : (P : List ℕ → Type 0) (chosen : List ℕ) (n m left power : ℕ) → n ≡ suc m → left < power → ((j : ℕ) (js : List ℕ) → j < power → length js ≡ m → total js ≤ left - j → P (chosen ++ j ∷ js)) → AllExtended P chosen n left
all_from_first P chosen n m left power e l h [] f t = absurd (omega arith)
all_from_first P chosen n m left power e l h (j ∷ js) f t = h j js (omega arith) (omega arith) (omega arith)
