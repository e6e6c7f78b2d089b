-- Where typing takes the inputs, their lengths at admissible sizes are positive and fit.
use Rattle.std.proofs.Common.{◌≡◌, ◌∙◌, ℕ, ◌+◌, ◌*◌, ◌≤◌, List, [], ◌∷◌, length, refl, ap, arith, ℤ, pos, negsuc, ◌+ℤ◌, ◌*ℤ◌, ◌≤ℤ◌}
use Rattle.std.specs.Prelude.{map}
use Rattle.std.proofs.lemmas.Int.{ints}
use Rattle.std.proofs.lemmas.Nat.{mul-le}
use Rattle.size_arith.specs.declared.names.Name.{Name}
use Rattle.size_arith.specs.declared.poly.Monomial.{Monomial}
use Rattle.size_arith.specs.Polynomial.{value_at, of_monomial, times}
use Rattle.size_arith.specs.Ranges.{AreNames, Admissible, sizes_at}
use Rattle.size_arith.proofs.Values.{value-plus, value-minus, value-times, value-of_monomial}
use Rattle.size_arith.proofs.Soundness.{shown_at_least, sound_largest}
use Rattle.lift_tree.proofs.Sizes.{product_value}
use Rattle.lift_tree.specs.declared.length.Sign.{Sign}
use Rattle.lift_tree.specs.declared.length.Sign.TheVariants.{Plus, Minus}
use Rattle.lift_tree.specs.declared.length.Part.{Part}
use Rattle.lift_tree.specs.InputTypes.{Written, Number, Pair, Array}
use Rattle.lift_tree.specs.Lists.{Every}
use Rattle.lift_tree.specs.Meaning.{product_at}
use Rattle.lift_tree.specs.Programs.{PlainInput}
use Rattle.lift_tree.specs.Types.{IsFormed}
use Rattle.lift_tree.specs.WorkedOut.{product_of, with_part, sum_of, length_of, worked_out}
use Rattle.lift_tree.specs.Limits.{HasFewScalars, ScalarsAreFew}
use Rattle.launch_file.specs.Inputs.{if_added, if_taken, added_at, taken_at, length_at, LengthsFit, InputsFit}

-- what a part comes to is added or taken
part_value : (ys : List ℕ) (sign : Sign) (sum p : List Monomial) (n : ℕ) → value_at ys p ≡ pos n → value_at ys (with_part sign sum p) +ℤ pos (if_taken sign n) ≡ value_at ys sum +ℤ pos (if_added sign n)
part_value ys Plus sum p n h = let e = value-plus ys sum p in omega (arith, ints)
part_value ys Minus sum p n h = let e = value-minus ys sum p in omega (arith, ints)

module _ (names : List Name) (ys : List ℕ) (few : length names ≤ 8) (are : AreNames names) (ok : Admissible names ys) where
  abbrev here : List ℕ
  here = sizes_at names ys

  product_here : (p : Part) → value_at ys (of_monomial (product_of names p.product)) ≡ pos (product_at here p.product)
  product_here p = value-of_monomial ys (product_of names p.product) ∙ product_value names ys ok few p.product

  sum_value : (parts : List Part) (sum : List Monomial) → value_at ys (sum_of names sum parts) +ℤ pos (taken_at here parts) ≡ value_at ys sum +ℤ pos (added_at here parts)
  sum_value [] sum = refl
  sum_value (p ∷ ps) sum =
      let n = product_at here p.product in
      let e = part_value ys p.sign sum (of_monomial (product_of names p.product)) n (product_here p) in
      let f = sum_value ps (with_part p.sign sum (of_monomial (product_of names p.product))) in
      omega (arith, ints)

  -- a length that is positive is what is added less what is taken
  pub length_value : (parts : List Part) (m : ℕ) → value_at ys (length_of names parts) ≡ pos m → (taken_at here parts ≤ added_at here parts) × (length_at here parts ≡ m)
  length_value parts m h =
      let e = sum_value parts [] in
      let f : m + taken_at here parts ≡ added_at here parts = omega (arith, ints) in
      (omega (arith, f), omega (arith, f))

  natural : (z : ℤ) → pos 1 ≤ℤ z → (m : ℕ) × (z ≡ pos m) × (1 ≤ m)
  natural (pos m) h = (m, refl, omega (arith, ints))
  natural (negsuc m) h = absurd (omega (arith, ints))

  pub formed_length : (parts : List Part) (a : Written) → IsFormed names (worked_out names (Array a parts)) → (m : ℕ) × (value_at ys (length_of names parts) ≡ pos m) × (1 ≤ m)
  formed_length parts a h = natural (value_at ys (length_of names parts)) (shown_at_least names ys are ok 1 (length_of names parts) h.0)

  -- where the product of the lengths outside is k
  fits : (ty : Written) (p : List Monomial) (k : ℕ) → value_at ys p ≡ pos k → 1 ≤ k → IsFormed names (worked_out names ty) → ScalarsAreFew names p (worked_out names ty) → (k ≤ 2147483647) × LengthsFit here ty
  fits Number p k e least formed h = let b = sound_largest names p ys are ok in (omega (arith, ints), tt)
  fits (Pair a b) p k e least formed h =
      let l = fits a p k e least formed.0 h.0 in
      let r = fits b p k e least formed.1 h.1 in
      (l.0, (l.1, r.1))
  fits (Array a parts) p k e least formed h =
      let m = formed_length parts a formed in
      let n = length_of names parts in
      let more : value_at ys (times p n) ≡ pos (k * m.0) = value-times ys p n ∙ ap (λ z. z *ℤ value_at ys n) e ∙ ap (λ z. pos k *ℤ z) m.1 ∙ omega (arith, ints) in
      let below : k * 1 ≤ k * m.0 = mul-le k 1 k m.0 (omega arith) m.2 in
      let inner : 1 * m.0 ≤ k * m.0 = mul-le 1 m.0 k m.0 least (omega arith) in
      let r = fits a (times p n) (k * m.0) more (omega (arith, below, least)) formed.1 h in
      let v = length_value parts m.0 m.1 in
      let len = v.1 in
      let most = r.0 in
      (omega (arith, below, most), (record { positive = v.0; small = omega (arith, len, inner, most) }, r.1))

  input_fits : (ty : Written) → IsFormed names (worked_out names ty) → HasFewScalars names (worked_out names ty) → LengthsFit here ty
  input_fits Number formed h = tt
  input_fits (Pair a b) formed h = (input_fits a formed.0 h.0, input_fits b formed.1 h.1)
  input_fits (Array a parts) formed h =
      let m = formed_length parts a formed in
      let r = fits a (length_of names parts) m.0 m.1 m.2 formed.1 h in
      let v = length_value parts m.0 m.1 in
      let len = v.1 in
      let most = r.0 in
      (record { positive = v.0; small = omega (arith, len, most) }, r.1)

  pub inputs_fit : (is : List PlainInput) → Every (IsFormed names) (map (λ (i : PlainInput). worked_out names i.ty) is) → Every (HasFewScalars names) (map (λ (i : PlainInput). worked_out names i.ty) is) → InputsFit here is
  inputs_fit [] formed h = tt
  inputs_fit (i ∷ is) formed h = (record { lengths = input_fits i.ty formed.0 h.0 }, inputs_fit is formed.1 h.1)
