-- Where typing takes a type, its lengths at admissible sizes are positive
-- and its values have few scalars.
use Rattle.std.proofs.Common.{◌≡◌, ◌∙◌, ℕ, ◌*◌, ◌≤◌, List, refl, sym, ap, subst, arith, ℤ, pos, negsuc, ◌*ℤ◌, ◌≤ℤ◌}
use Rattle.std.specs.Prelude.{nat_abs}
use Rattle.std.proofs.lemmas.Int.{ints}
use Rattle.std.proofs.lemmas.Nat.{mul-le}
use Rattle.size_arith.specs.declared.names.Name.{Name}
use Rattle.size_arith.specs.declared.poly.Monomial.{Monomial}
use Rattle.size_arith.specs.Polynomial.{value_at, times}
use Rattle.size_arith.specs.Ranges.{AreNames, Admissible}
use Rattle.size_arith.proofs.Values.{value-times}
use Rattle.size_arith.proofs.Soundness.{shown_at_least, sound_largest}
use Rattle.lift_tree.specs.Types.{PlainTy, U32, U32x4, PairOf, ArrayOf, IsFormed, IsOutput}
use Rattle.lift_tree.specs.Limits.{HasFewScalars, ScalarsAreFew}
use Rattle.value_lists.specs.Lists.{length_at, IsSmall}

module _ (names : List Name) (ys : List ℕ) (are : AreNames names) (ok : Admissible names ys) where
  natural : (z : ℤ) → pos 1 ≤ℤ z → (m : ℕ) × (z ≡ pos m) × (1 ≤ m)
  natural (pos m) h = (m, refl, omega (arith, ints))
  natural (negsuc m) h = absurd (omega (arith, ints))

  -- where the product of the lengths outside is k
  few : (a : PlainTy) (p : List Monomial) (k : ℕ) → value_at ys p ≡ pos k → 1 ≤ k → IsFormed names a → ScalarsAreFew names p a → (k ≤ 2147483647) × IsSmall ys k a
  few U32 p k e least formed h = let b = sound_largest names p ys are ok in let c : k ≤ 2147483647 = omega (arith, ints) in (c, omega arith)
  few U32x4 p k e least formed h = let b = sound_largest names p ys are ok in let c : k * 4 ≤ 2147483647 = omega (arith, ints) in (omega arith, omega arith)
  few (PairOf a b) p k e least formed h =
      let l = few a p k e least formed.0 h.0 in
      let r = few b p k e least formed.1 h.1 in
      (l.0, (l.1, r.1))
  few (ArrayOf a n) p k e least formed h =
      let m = natural (value_at ys n) (shown_at_least names ys are ok 1 n formed.0) in
      let long : length_at ys n ≡ m.0 = ap nat_abs m.1 in
      let more : value_at ys (times p n) ≡ pos (k * length_at ys n) =
      value-times ys p n ∙ ap (λ z. z *ℤ value_at ys n) e ∙ ap (λ z. pos k *ℤ z) m.1 ∙ omega (arith, ints) ∙ ap (λ z. pos (k * z)) (sym long) in
      let above = m.2 in
      let some : 1 ≤ length_at ys n = omega (arith, long, above) in
      let below : k * 1 ≤ k * length_at ys n = mul-le k 1 k (length_at ys n) (omega arith) some in
      let inner : 1 * length_at ys n ≤ k * length_at ys n = mul-le 1 (length_at ys n) k (length_at ys n) least (omega arith) in
      let r = few a (times p n) (k * length_at ys n) more (omega (arith, below, least)) formed.1 h in
      let most = r.0 in
      (omega (arith, below, most), (omega (arith, inner, most), omega (arith, most), r.1))

  pub typed_outputs_are_small : (a : PlainTy) → IsOutput a → IsFormed names a → HasFewScalars names a → IsSmall ys 1 a
  typed_outputs_are_small U32 o formed h = absurd o
  typed_outputs_are_small U32x4 o formed h = absurd o
  typed_outputs_are_small (PairOf a b) o formed h = absurd o
  typed_outputs_are_small (ArrayOf a n) o formed h =
      let m = natural (value_at ys n) (shown_at_least names ys are ok 1 n formed.0) in
      let long : length_at ys n ≡ m.0 = ap nat_abs m.1 in
      let above = m.2 in
      let r = few a n (length_at ys n) (m.1 ∙ ap pos (sym long)) (omega (arith, long, above)) formed.1 h in
      let most = r.0 in
      (omega (arith, most), (let z : 1 * length_at ys n ≡ length_at ys n = omega arith in omega (arith, z, most)), times_one a (length_at ys n) r.1)
    where
      times_one : (a : PlainTy) (k : ℕ) → IsSmall ys k a → IsSmall ys (1 * k) a
      times_one a k h = subst (λ t. IsSmall ys t a) (let z : k ≡ 1 * k = omega arith in z) h
