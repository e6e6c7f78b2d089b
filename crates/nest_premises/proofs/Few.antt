-- Types within the limits have few scalars: at admissible sizes their lengths, and the scalars of
-- each component, are below 2^31.
use Rattle.std.proofs.Common.{◌≡◌, ◌∙◌, ℕ, ◌*◌, ◌≤◌, ◌<◌, ◌^◌, List, refl, sym, ap, subst, arith, ℤ, pos, negsuc, ◌*ℤ◌, ◌≤ℤ◌}
use Rattle.std.proofs.lemmas.Int.{ints}
use Rattle.std.proofs.lemmas.Nat.{mul-le}
use Rattle.size_arith.specs.declared.poly.Monomial.{Monomial}
use Rattle.size_arith.specs.Polynomial.{value_at, times}
use Rattle.size_arith.specs.Ranges.{AreNames, Admissible}
use Rattle.size_arith.proofs.Values.{value-times}
use Rattle.size_arith.proofs.Soundness.{shown_at_least, sound_largest}
use Rattle.lift_tree.specs.Types as types
use Rattle.lift_tree.specs.Types.{PlainTy, IsFormed}
use Rattle.lift_tree.specs.Limits.{HasFewScalars, ScalarsAreFew}
use Rattle.lift_tree.specs.Typing.{Declared}
use Rattle.lift_ir.specs.Types.{Ty, Scalar, PairOf, ArrayOf, size, IsShort}
use Rattle.lift_ir.specs.AtLaunch.{natural, length_at, ty_at}

-- so many values of the type have fewer than 2^31 scalars in each component, and no length is 0
abbrev pub AreFew : ℕ → Ty → Type 0
AreFew k Scalar = k < 2 ^ 31
AreFew k (PairOf a b) = AreFew k a × AreFew k b
AreFew k (ArrayOf n a) = (0 < n) × AreFew (k * n) a

pub fewer : (k l : ℕ) (a : Ty) → k ≤ l → AreFew l a → AreFew k a
fewer k l Scalar e h = omega arith
fewer k l (PairOf a b) e h = (fewer k l a e h.0, fewer k l b e h.1)
fewer k l (ArrayOf n a) e h = (h.0, fewer (k * n) (l * n) a (mul-le k n l n e (omega arith)) h.1)

-- the count itself is below 2^31
pub counted : (k : ℕ) (a : Ty) → AreFew k a → k < 2 ^ 31
counted k Scalar h = h
counted k (PairOf a b) h = counted k a h.0
counted k (ArrayOf n a) h =
    let c = counted (k * n) a h.1 in
    let l : k * 1 ≤ k * n = mul-le k 1 k n (omega arith) h.0 in
    omega (arith, c, l)

pub short_of : (k : ℕ) (a : Ty) → 0 < k → AreFew k a → IsShort a
short_of k Scalar p h = tt
short_of k (PairOf a b) p h = (short_of k a p h.0, short_of k b p h.1)
short_of k (ArrayOf n a) p h =
    let c = counted (k * n) a h.1 in
    let l : 1 * n ≤ k * n = mul-le 1 n k n p (omega arith) in
    let q : 1 * 1 ≤ k * n = mul-le 1 1 k n p h.0 in
    (omega (arith, c, l), short_of (k * n) a (omega (arith, q)) h.1)

pub size_of : (k : ℕ) (a : Ty) → AreFew k a → k * size a < 2 ^ 31
size_of k Scalar h = let c = counted k Scalar h in let e : k * 1 ≡ k = omega arith in omega (arith, c, e)
size_of k (PairOf a b) h = let c = counted k (PairOf a b) h in let e : k * 1 ≡ k = omega arith in omega (arith, c, e)
size_of k (ArrayOf n a) h =
    let c = size_of (k * n) a h.1 in
    let e : k * (n * size a) ≡ k * n * size a = omega arith in
    omega (arith, c, e)

module _ (d : Declared) (bases : List ℕ) (are : AreNames d.names) (ok : Admissible d.names bases) where
  abbrev pub Few : PlainTy → Type 0
  Few a = AreFew 1 (ty_at bases a)

  natural_length : (z : ℤ) → pos 1 ≤ℤ z → (z ≡ pos (natural z)) × (0 < natural z)
  natural_length (pos m) h = (refl, omega (arith, ints))
  natural_length (negsuc m) h = absurd (omega (arith, ints))

  -- where the product of the lengths outside is k
  below : (a : PlainTy) (p : List Monomial) (k : ℕ) → value_at bases p ≡ pos k → IsFormed d.names a → ScalarsAreFew d.names p a → AreFew k (ty_at bases a)
  below types.U32 p k e formed h = let b = sound_largest d.names p bases are ok in omega (arith, ints)
  below types.U32x4 p k e formed h = let b = sound_largest d.names p bases are ok in (omega arith, omega (arith, ints))
  below (types.PairOf a b) p k e formed h = (below a p k e formed.0 h.0, below b p k e formed.1 h.1)
  below (types.ArrayOf a n) p k e formed h =
      let m = natural_length (value_at bases n) (shown_at_least d.names bases are ok 1 n formed.0) in
      let more : value_at bases (times p n) ≡ pos (k * length_at bases n) =
      value-times bases p n ∙ ap (λ z. z *ℤ value_at bases n) e ∙ ap (λ z. pos k *ℤ z) m.0 ∙ omega (arith, ints) in
      (m.1, below a (times p n) (k * length_at bases n) more formed.1 h)

  pub few_of : (a : PlainTy) → IsFormed d.names a → HasFewScalars d.names a → Few a
  few_of types.U32 formed h = omega arith
  few_of types.U32x4 formed h = (omega arith, omega arith)
  few_of (types.PairOf a b) formed h = (few_of a formed.0 h.0, few_of b formed.1 h.1)
  few_of (types.ArrayOf a n) formed h =
      let m = natural_length (value_at bases n) (shown_at_least d.names bases are ok 1 n formed.0) in
      let e : 1 * length_at bases n ≡ length_at bases n = omega arith in
      (m.1, subst (λ k. AreFew k (ty_at bases a)) (sym e) (below a n (length_at bases n) m.0 formed.1 h))
