-- Powers that no negative monomial reaches.
use Rattle.std.proofs.Common.{◌≡◌, ℕ, suc, ◌-◌, ◌*◌, ◌≤◌, ◌<◌, List, [], ◌∷◌, ◌++◌, length, ℤ, pos, ◌*ℤ◌, ◌≤ℤ◌, refl, arith, Bool, true, false, inl, inr}
use Rattle.std.specs.Prelude.{neg_ℤ, nat_lt}
use Rattle.std.proofs.lemmas.Int.{ints}
use Rattle.std.proofs.lemmas.Bool.Decides.{nat_tests}
use Rattle.size_arith.specs.declared.poly.Monomial.{Monomial}
use Rattle.size_arith.specs.Polynomial.{AtMost, AllWide, number, total}
use Rattle.size_arith.specs.Shown.{share, part, shifted}
use Rattle.size_arith.specs.Code.{AllExtended, AllAbove}
use Rattle.size_arith.proofs.Soundness.{share_beyond, sign}

part_lost : (ls ms chosen : List ℕ) (power j : ℕ) (js : List ℕ) → length chosen < length ls → length chosen < length ms → power ≤ j → (AtMost (chosen ++ power ∷ []) ms → ⊥) → part ls ms (chosen ++ j ∷ js) ≡ 0
part_lost [] ms chosen power j js h k l n = absurd (omega arith)
part_lost (x ∷ ls) [] chosen power j js h k l n = absurd (omega arith)
part_lost (x ∷ ls) (m ∷ ms) [] power j js h k l n = at (nat_lt m power) refl
  where
    at : (t : Bool) → nat_lt m power ≡ t → share x m j * part ls ms js ≡ 0
    at true q = let s = share_beyond x m j (grind (arith, nat_tests)) in rw s (omega arith)
    at false q = absurd (n (grind (arith, nat_tests), tt))
part_lost (x ∷ ls) (m ∷ ms) (c ∷ chosen) power j js h k l n = at (nat_lt m c) refl (λ f. part_lost ls ms chosen power j js (omega arith) (omega arith) l (λ a. n (f, a)))
  where
    at : (t : Bool) → nat_lt m c ≡ t → (c ≤ m → part ls ms (chosen ++ j ∷ js) ≡ 0) → share x m c * part ls ms (chosen ++ j ∷ js) ≡ 0
    at true q r = let s = share_beyond x m c (grind (arith, nat_tests)) in rw s (omega arith)
    at false q r = let z = r (grind (arith, nat_tests)) in rw z (omega arith)

shifted_above : (ls : List ℕ) (p : List Monomial) (chosen : List ℕ) (power j : ℕ) (js : List ℕ) → length chosen < length ls → length chosen < 8 → AllWide 8 p → power ≤ j → AllAbove (chosen ++ power ∷ []) p → pos 0 ≤ℤ shifted ls p (chosen ++ j ∷ js)
shifted_above ls [] chosen power j js h k w l a = omega (arith, ints)
shifted_above ls (m ∷ p) chosen power j js h k w l a =
    let r = shifted_above ls p chosen power j js h k w.1 l a.1 in
    let e = w.0 in
    let s : pos 0 ≤ℤ (m.coefficient *ℤ pos (part ls m.powers (chosen ++ j ∷ js))) = elim a.0 [
      | inl f ↦ sign m.coefficient (part ls m.powers (chosen ++ j ∷ js)) f
      | inr n ↦ let z = part_lost ls m.powers chosen power j js h (omega arith) l n in rw z (omega (arith, ints))
    ] in
    omega (arith, ints)

-- what was tried below a power, from which on nothing negative is reached, is all
pub all_from_above : (ls : List ℕ) (k : ℕ) (p : List Monomial) (chosen : List ℕ) (n m left power : ℕ) → n ≡ suc m → length chosen < length ls → length chosen < 8 → AllWide 8 p → AllAbove (chosen ++ power ∷ []) (number (neg_ℤ (pos k)) ∷ p) → ((j : ℕ) (js : List ℕ) → j < power → length js ≡ m → total js ≤ left - j → pos 0 ≤ℤ shifted ls (number (neg_ℤ (pos k)) ∷ p) (chosen ++ j ∷ js)) → AllExtended (λ js. pos 0 ≤ℤ shifted ls (number (neg_ℤ (pos k)) ∷ p) js) chosen n left
all_from_above ls k p chosen n m left power e h i w a f [] g t = absurd (omega arith)
all_from_above ls k p chosen n m left power e h i w a f (j ∷ js) g t = at (nat_lt j power) refl
  where
    at : (b : Bool) → nat_lt j power ≡ b → pos 0 ≤ℤ shifted ls (number (neg_ℤ (pos k)) ∷ p) (chosen ++ j ∷ js)
    at true q = f j js (grind (arith, nat_tests)) (omega arith) (omega arith)
    at false q = shifted_above ls (number (neg_ℤ (pos k)) ∷ p) chosen power j js h i (refl, w) (grind (arith, nat_tests)) a

-- a monomial that has less of some name adds nothing
part_none : (ls ms js : List ℕ) → length js ≤ length ls → length js ≤ length ms → (AtMost js ms → ⊥) → part ls ms js ≡ 0
part_none ls ms [] h k n = absurd (n tt)
part_none [] ms (j ∷ js) h k n = absurd (omega arith)
part_none (x ∷ ls) [] (j ∷ js) h k n = absurd (omega arith)
part_none (x ∷ ls) (m ∷ ms) (j ∷ js) h k n = at (nat_lt m j) refl (λ f. part_none ls ms js (omega arith) (omega arith) (λ a. n (f, a)))
  where
    at : (t : Bool) → nat_lt m j ≡ t → (j ≤ m → part ls ms js ≡ 0) → share x m j * part ls ms js ≡ 0
    at true q r = let s = share_beyond x m j (grind (arith, nat_tests)) in rw s (omega arith)
    at false q r = let z = r (grind (arith, nat_tests)) in rw z (omega arith)

pub adds_nothing : (c : ℤ) (ls ms js : List ℕ) → length js ≤ length ls → length js ≤ length ms → (AtMost js ms → ⊥) → pos 0 ≡ c *ℤ pos (part ls ms js)
adds_nothing c ls ms js h k n = let e = part_none ls ms js h k n in rw e (omega (arith, ints))
