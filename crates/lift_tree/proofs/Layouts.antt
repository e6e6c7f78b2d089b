-- Layouts, case by case: of what type a layout's operand and its result are, and its value.
use Rattle.std.proofs.Common.{◌≡◌, ℕ, ◌*◌, ◌/◌, ◌<◌, ◌≤◌, List, length, refl, sym, ap, ◌∙◌, subst, arith, pos, ℤ, ◌*ℤ◌, ◌≤ℤ◌, inl, inr}
use Rattle.std.specs.Prelude.{reverse, map, ◌⊎◌}
use Rattle.std.proofs.lemmas.List.{length-reverse}
use Rattle.std.proofs.lemmas.Int.{ints}
use Rattle.size_arith.specs.declared.poly.Monomial.{Monomial}
use Rattle.size_arith.specs.Polynomial.{value_at, monomial_at, of_monomial, number, times, quotient}
use Rattle.size_arith.specs.Shown.{ShownAtLeast}
use Rattle.size_arith.proofs.Values.{value-times}
use Rattle.size_arith.specs.declared.names.Name.{Name}
use Rattle.lift_tree.specs.declared.layout.Layout as layout
use Rattle.lift_tree.specs.declared.layout.Layout.TheVariants.{Join, Transpose, Split, Reverse, Stride, AsVector, AsScalar}
use Rattle.lift_tree.specs.Values.{Value, array, members}
use Rattle.lift_tree.specs.Lists.{Every, concat, pieces, width, columns, strided}
use Rattle.lift_tree.specs.Meaning.{World, rows, array_of_rows, layout_value, product_at}
use Rattle.lift_tree.specs.Types.{PlainTy, U32, U32x4, ArrayOf, IsNumber, HasType, IsFormed, HoldsElements}
use Rattle.lift_tree.specs.WorkedOut.{product_of}
use Rattle.lift_tree.specs.Typing.{Declared, LayoutRow, IsAdmissible, constant}
use Rattle.lift_tree.specs.Limits.{components, ArrayFits, LayoutFits, LengthsFit}
use Rattle.lift_tree.proofs.Members.{members-array, length-map, every_map, every_to, every_and, every-concat, length-pieces, pieces_long, every-pieces, length-columns, columns_long, every-columns, every-reverse, length-strided, every-strided}
use Rattle.lift_tree.proofs.Sizes.{number_at, value-constant, value-of_monomial, value-quotient, product_value}
use Rattle.lift_tree.proofs.LengthsFit.{divisor_fits, quotient_fits}
use Rattle.lift_tree.proofs.Rows.{concat_long, divided_by, list_has, list_have, quotient_is, rows_has, rows_have, width_is}

pub record IsAnArray (a : PlainTy) : Type 0 where
  pub element : PlainTy
  pub length : List Monomial
  pub is : a ≡ ArrayOf element length

-- what a layout is of
pub layout_operand : (names : List Name) (l : layout.Layout) (b a : PlainTy) → LayoutRow names l b a → IsAnArray b
layout_operand names Join b a r = record { element = ArrayOf r.0 r.1; length = r.2; is = r.3 }
layout_operand names Transpose b a r = record { element = ArrayOf r.0 r.1; length = r.2; is = r.3 }
layout_operand names (Split fs) b a r = record { element = r.0; length = r.1; is = r.2 }
layout_operand names Reverse b a r = record { element = r.0; length = r.1; is = r.2 }
layout_operand names (Stride fs) b a r = record { element = r.0; length = r.1; is = r.2 }
layout_operand names AsVector b a r = record { element = U32; length = r.0; is = r.1 }
layout_operand names AsScalar b a r = record { element = U32x4; length = r.0; is = r.1 }

-- what a layout is
pub layout_result : (names : List Name) (l : layout.Layout) (b a : PlainTy) → LayoutRow names l b a → IsAnArray a
layout_result names Join b a r = record { element = r.0; length = _; is = r.4 }
layout_result names Transpose b a r = record { element = ArrayOf r.0 r.2; length = r.1; is = r.4 }
layout_result names (Split fs) b a r = record { element = _; length = _; is = r.4 }
layout_result names Reverse b a r = record { element = r.0; length = r.1; is = r.3 }
layout_result names (Stride fs) b a r = record { element = r.0; length = r.1; is = r.4 }
layout_result names AsVector b a r = record { element = U32x4; length = _; is = r.3 }
layout_result names AsScalar b a r = record { element = U32; length = _; is = r.2 }

-- whatever neither arrays nor vectors change is the same of both
pub layout_same {ℓ} : {A : Type ℓ} (f : PlainTy → A) → ((x : PlainTy) (n : List Monomial) → f (ArrayOf x n) ≡ f x) → f U32 ≡ f U32x4 → (names : List Name) (l : layout.Layout) (b a : PlainTy) → LayoutRow names l b a → f a ≡ f b
layout_same f h e names Join b a r = ap f r.4 ∙ h r.0 _ ∙ sym (h r.0 r.1) ∙ sym (h (ArrayOf r.0 r.1) r.2) ∙ ap f (sym r.3)
layout_same f h e names Transpose b a r = ap f r.4 ∙ h (ArrayOf r.0 r.2) r.1 ∙ h r.0 r.2 ∙ sym (h r.0 r.1) ∙ sym (h (ArrayOf r.0 r.1) r.2) ∙ ap f (sym r.3)
layout_same f h e names (Split fs) b a r = ap f r.4 ∙ h _ _ ∙ h r.0 _ ∙ sym (h r.0 r.1) ∙ ap f (sym r.2)
layout_same f h e names Reverse b a r = ap f (r.3 ∙ sym r.2)
layout_same f h e names (Stride fs) b a r = ap f (r.4 ∙ sym r.2)
layout_same f h e names AsVector b a r = ap f r.3 ∙ h U32x4 _ ∙ sym e ∙ sym (h U32 r.0) ∙ ap f (sym r.1)
layout_same f h e names AsScalar b a r = ap f r.2 ∙ h U32 _ ∙ e ∙ sym (h U32x4 r.0) ∙ ap f (sym r.1)

pub layout_components : (names : List Name) (l : layout.Layout) (b a : PlainTy) → LayoutRow names l b a → components a ≡ components b
layout_components names l b a r = layout_same components (λ x n. refl) refl names l b a r

pub layout_holds : (names : List Name) (l : layout.Layout) (b a : PlainTy) → LayoutRow names l b a → HoldsElements b → HoldsElements a
layout_holds names l b a r h = subst (λ X. X) (sym (layout_same HoldsElements (λ x n. refl) refl names l b a r)) h

pub layout_held : (names : List Name) (l : layout.Layout) (b a : PlainTy) → LayoutRow names l b a → HoldsElements a → HoldsElements b
layout_held names l b a r h = subst (λ X. X) (layout_same HoldsElements (λ x n. refl) refl names l b a r) h

-- ---- a layout keeps the type of its operand, or forms an array anew
-- a layout of an array of type b forms one of type a: it passes no limit where the layout passes
-- none, nor do its lengths where those of the operand don't
pub record FormsAnew (names : List Name) (l : layout.Layout) (b a : PlainTy) : Type 0 where
  pub element : PlainTy
  pub length : List Monomial
  pub is : a ≡ ArrayOf element length
  pub formed : IsFormed names a
  pub fits : LayoutFits names l b → ArrayFits names element length
  pub lengths : LayoutFits names l b → IsFormed names b → LengthsFit b → LengthsFit a

pub layout_cases : (names : List Name) (l : layout.Layout) (b a : PlainTy) → LayoutRow names l b a → (b ≡ a) ⊎ FormsAnew names l b a
layout_cases names Join b a r = inr (record {
  element = r.0;
  length = times r.2 r.1;
  is = r.4;
  formed = r.5;
  fits = λ u. (subst (LayoutFits names Join) r.3 u).1;
  lengths = λ u f h.
      let small = (subst (LayoutFits names Join) r.3 u).0 in
      subst LengthsFit (sym r.4) (small.terms, small.degree, (subst LengthsFit r.3 h).2.2);
})
layout_cases names Transpose b a r = inr (record {
  element = ArrayOf r.0 r.2;
  length = r.1;
  is = r.4;
  formed = r.5;
  fits = λ u. (subst (LayoutFits names Transpose) r.3 u).1;
  lengths = λ u f h.
      let k = subst LengthsFit r.3 h in
      subst LengthsFit (sym r.4) (k.2.0, k.2.1, (k.0, k.1, k.2.2));
})
layout_cases names (Split fs) b a r =
    let m = product_of names fs in
    inr (record {
      element = _;
      length = quotient m r.1;
      is = r.4;
      formed = r.5;
      fits = λ u. (subst (LayoutFits names (Split fs)) r.2 u).2;
      lengths = λ u f h.
          let k = subst LengthsFit r.2 h in
          let rest = quotient_fits m r.1 (record { terms = k.0; degree = k.1 }) in
          let row = divisor_fits names m r.1 (subst (IsFormed names) r.2 f).0 r.3 (record { terms = k.0; degree = k.1 }) in
          subst LengthsFit (sym r.4) (rest.terms, rest.degree, (row.terms, row.degree, k.2));
    })
layout_cases names Reverse b a r = inl (r.2 ∙ sym r.3)
layout_cases names (Stride fs) b a r = inl (r.2 ∙ sym r.4)
layout_cases names AsVector b a r = inr (record {
  element = U32x4;
  length = quotient (number (pos 4)) r.0;
  is = r.3;
  formed = r.4;
  fits = λ u. subst (LayoutFits names AsVector) r.1 u;
  lengths = λ u f h.
      let k = subst LengthsFit r.1 h in
      let rest = quotient_fits (number (pos 4)) r.0 (record { terms = k.0; degree = k.1 }) in
      subst LengthsFit (sym r.3) (rest.terms, rest.degree, tt);
})
layout_cases names AsScalar b a r = inr (record {
  element = U32;
  length = times r.0 (constant 4);
  is = r.2;
  formed = r.3;
  fits = λ u. (subst (LayoutFits names AsScalar) r.1 u).1;
  lengths = λ u f h.
      let small = (subst (LayoutFits names AsScalar) r.1 u).0 in
      subst LengthsFit (sym r.2) (small.terms, small.degree, tt);
})

-- ---- of one operand a layout has one type
pub same_array : (x y : PlainTy) (n m : List Monomial) → ArrayOf x n ≡ ArrayOf y m → (x ≡ y) × (n ≡ m)
same_array x y n m e = (cc, cc)

pub layout_unique : (names : List Name) (l : layout.Layout) (b a c : PlainTy) → LayoutRow names l b a → LayoutRow names l b c → a ≡ c
layout_unique names Join b a c h k =
    let i = same_array (ArrayOf h.0 h.1) (ArrayOf k.0 k.1) h.2 k.2 (sym h.3 ∙ k.3) in
    let m = same_array h.0 k.0 h.1 k.1 i.0 in
    let p = h.4 in let q = k.4 in let r = i.1 in let s = m.0 in let t = m.1 in cc
layout_unique names Transpose b a c h k =
    let i = same_array (ArrayOf h.0 h.1) (ArrayOf k.0 k.1) h.2 k.2 (sym h.3 ∙ k.3) in
    let m = same_array h.0 k.0 h.1 k.1 i.0 in
    let p = h.4 in let q = k.4 in let r = i.1 in let s = m.0 in let t = m.1 in cc
layout_unique names (Split fs) b a c h k =
    let i = same_array h.0 k.0 h.1 k.1 (sym h.2 ∙ k.2) in
    let p = h.4 in let q = k.4 in let r = i.0 in let s = i.1 in cc
layout_unique names Reverse b a c h k = h.3 ∙ sym h.2 ∙ k.2 ∙ sym k.3
layout_unique names (Stride fs) b a c h k = h.4 ∙ sym h.2 ∙ k.2 ∙ sym k.4
layout_unique names AsVector b a c h k =
    let i = same_array U32 U32 h.0 k.0 (sym h.1 ∙ k.1) in
    h.3 ∙ ap (λ n. ArrayOf U32x4 (quotient (number (pos 4)) n)) i.1 ∙ sym k.3
layout_unique names AsScalar b a c h k =
    let i = same_array U32x4 U32x4 h.0 k.0 (sym h.1 ∙ k.1) in
    h.2 ∙ ap (λ n. ArrayOf U32 (times n (constant 4))) i.1 ∙ sym k.2

-- ---- a layout's value has its type
module _ (d : Declared) (w : World) (ok : IsAdmissible d w) (few : length d.names ≤ 8) (shown : (k : ℕ) (p : List Monomial) → ShownAtLeast k d.names p → pos k ≤ℤ value_at w.bases p) where
  split_has : (x : PlainTy) (n q : List Monomial) (m : Monomial) (k : ℕ) (v : Value) → monomial_at w.bases m ≡ pos k → value_at w.bases n ≡ monomial_at w.bases m *ℤ value_at w.bases q → 0 < k → HasType w.bases (ArrayOf x n) v
      → HasType w.bases (ArrayOf (ArrayOf x (of_monomial m)) q) (array_of_rows (pieces (length (members v) / k) k k (members v)))
  split_has x n q m k v e f h t =
      let u = list_have w.bases x n v t in
      let xs = members v in
      let long : pos (length xs) ≡ pos k *ℤ value_at w.bases q = u.0 ∙ f ∙ ap (λ z. z *ℤ value_at w.bases q) e in
      let size : value_at w.bases (of_monomial m) ≡ pos k = value-of_monomial w.bases m ∙ e in
      let count = quotient_is k (length xs) (value_at w.bases q) h long in
      rows_has w.bases x (of_monomial m) q _ (ap pos (length-pieces (length xs / k) k k xs) ∙ count)
      (every_and _ _ _ (every_to (λ r g. ap pos g ∙ sym size) _ (pieces_long (length xs / k) k k xs (omega arith))) (every-pieces (HasType w.bases x) (length xs / k) k k xs u.1))

  pub layout_has : (l : layout.Layout) (b a : PlainTy) (v : Value) → IsFormed d.names b → LayoutRow d.names l b a → HasType w.bases b v → HasType w.bases a (layout_value w.sizes l v)
  layout_has Join b a v fb r t =
      let x = r.0 in
      let m = r.1 in
      let n = r.2 in
      let u = rows_have w.bases x m n v (subst (λ z. HasType w.bases z v) r.3 t) in
      let l = concat_long (value_at w.bases m) (rows v) (every_to (λ q h. h.0) (rows v) u.1) in
      subst
      (λ z. HasType w.bases z (array (concat (rows v))))
      (sym r.4)
      (list_has w.bases x (times n m) (concat (rows v)) (l ∙ ap (λ z. z *ℤ value_at w.bases m) u.0 ∙ sym (value-times w.bases n m)) (every-concat (HasType w.bases x) (rows v) (every_to (λ q h. h.1) (rows v) u.1)))
  layout_has Transpose b a v fb r t =
      let x = r.0 in
      let m = r.1 in
      let n = r.2 in
      let u = rows_have w.bases x m n v (subst (λ z. HasType w.bases z v) r.3 t) in
      let rs = rows v in
      let formed = subst (IsFormed d.names) r.4 r.5 in
      let least = shown 1 n formed.1.0 in
      let some : 0 < length rs = omega (arith, ints) in
      let wide = width_is (value_at w.bases m) rs some (every_to (λ q h. h.0) rs u.1) in
      subst
      (λ z. HasType w.bases z (array_of_rows (columns (width rs) rs)))
      (sym r.4)
      (rows_has w.bases x n m (columns (width rs) rs) (ap pos (length-columns (width rs) rs) ∙ wide.0)
      (every_and _ _ (columns (width rs) rs) (every_to (λ q h. ap pos h ∙ u.0) _ (columns_long (width rs) rs)) (every-columns (HasType w.bases x) (width rs) rs (every_and (λ q. length q ≡ width rs) (Every (HasType w.bases x)) rs wide.1 (every_to (λ q h. h.1) rs u.1)))))
  layout_has (Split fs) b a v fb r t =
      let m = product_of d.names fs in
      let n = r.1 in
      let k = product_at w.sizes fs in
      let e : monomial_at w.bases m ≡ pos k = product_value d.names w.bases ok.bases few fs ∙ ap (λ ss. pos (product_at ss fs)) (sym ok.sizes) in
      let formed = subst (IsFormed d.names) r.4 r.5 in
      let least = shown 1 (of_monomial m) formed.1.0 in
      let size = value-of_monomial w.bases m in
      let some : 0 < k = omega (arith, ints) in
      subst
      (λ z. HasType w.bases z (array_of_rows (pieces (length (members v) / k) k k (members v))))
      (sym r.4)
      (split_has r.0 n (quotient m n) m k v e (value-quotient w.bases m n r.3) some (subst (λ z. HasType w.bases z v) r.2 t))
  layout_has Reverse b a v fb r t =
      let u = list_have w.bases r.0 r.1 v (subst (λ z. HasType w.bases z v) r.2 t) in
      let xs = members v in
      subst
      (λ z. HasType w.bases z (array (reverse xs)))
      (sym r.3)
      (list_has w.bases r.0 r.1 (reverse xs) (ap pos (length-reverse xs) ∙ u.0) (every-reverse (HasType w.bases r.0) xs u.1))
  layout_has (Stride fs) b a v fb r t =
      let m = product_of d.names fs in
      let x = r.0 in
      let n = r.1 in
      let k = product_at w.sizes fs in
      let u = list_have w.bases x n v (subst (λ z. HasType w.bases z v) r.2 t) in
      let xs = members v in
      let e : monomial_at w.bases m ≡ pos k = product_value d.names w.bases ok.bases few fs ∙ ap (λ ss. pos (product_at ss fs)) (sym ok.sizes) in
      let long : pos (length xs) ≡ pos k *ℤ value_at w.bases (quotient m n) = u.0 ∙ value-quotient w.bases m n r.3 ∙ ap (λ z. z *ℤ value_at w.bases (quotient m n)) e in
      let formed = subst (IsFormed d.names) r.2 fb in
      let least = shown 1 n formed.0 in
      let here = u.0 in
      let some : 0 < length xs = omega (arith, ints) in
      let whole = divided_by k (length xs) (value_at w.bases (quotient m n)) some long in
      subst
      (λ z. HasType w.bases z (array (strided k xs)))
      (sym r.4)
      (list_has w.bases x n (strided k xs) (ap pos (length-strided k xs whole.0 whole.1) ∙ u.0) (every-strided (HasType w.bases x) k xs whole.0 whole.1 u.1))
  layout_has AsVector b a v fb r t =
      let n = r.0 in
      let q = quotient (number (pos 4)) n in
      let u = list_have w.bases U32 n v (subst (λ z. HasType w.bases z v) r.1 t) in
      let xs = members v in
      let long : pos (length xs) ≡ pos 4 *ℤ value_at w.bases q = u.0 ∙ value-quotient w.bases (number (pos 4)) n r.2 ∙ ap (λ z. z *ℤ value_at w.bases q) (number_at w.bases (pos 4)) in
      let count = quotient_is 4 (length xs) (value_at w.bases q) (omega arith) long in
      let rs = pieces (length xs / 4) 4 4 xs in
      let fits : length xs / 4 * 4 ≡ length xs = whole_fours (length xs) (value_at w.bases q) long in
      let all = every_and (λ r. length r ≡ 4) (Every IsNumber) rs (pieces_long (length xs / 4) 4 4 xs (omega arith)) (every-pieces IsNumber (length xs / 4) 4 4 xs u.1) in
      subst
      (λ z. HasType w.bases z (array_of_rows rs))
      (sym r.3)
      (list_has w.bases U32x4 q (map array rs) (ap pos (length-map array rs ∙ length-pieces (length xs / 4) 4 4 xs) ∙ count)
      (every_map (λ r. (length r ≡ 4) × Every IsNumber r) (HasType w.bases U32x4) array rs (λ r h. (r, refl, h.0, h.1)) all))
    where
      whole_fours : (k : ℕ) (z : ℤ) → pos k ≡ pos 4 *ℤ z → k / 4 * 4 ≡ k
      whole_fours k z e = omega (arith, ints)
  layout_has AsScalar b a v fb r t =
      let n = r.0 in
      let u = list_have w.bases U32x4 n v (subst (λ z. HasType w.bases z v) r.1 t) in
      let all = every_map (HasType w.bases U32x4) (λ r. (pos (length r) ≡ pos 4) × Every IsNumber r) members (members v) (λ x h. vector_row x h) u.1 in
      let l = concat_long (pos 4) (rows v) (every_to (λ q h. h.0) (rows v) all) in
      let e = value-times w.bases n (constant 4) ∙ ap (λ z. value_at w.bases n *ℤ z) (value-constant w.bases 4) in
      subst
      (λ z. HasType w.bases z (array (concat (rows v))))
      (sym r.2)
      (list_has w.bases U32 (times n (constant 4)) (concat (rows v)) (l ∙ ap (λ z. z *ℤ pos 4) (ap pos (length-map members (members v)) ∙ u.0) ∙ sym e) (every-concat IsNumber (rows v) (every_to (λ q h. h.1) (rows v) all)))
    where
      vector_row : (x : Value) → HasType w.bases U32x4 x → (pos (length (members x)) ≡ pos 4) × Every IsNumber (members x)
      vector_row x h =
          let e : h.0 ≡ members x = sym (members-array h.0) ∙ ap members (sym h.1) in
          (ap pos (ap length (sym e) ∙ h.2), subst (Every IsNumber) e h.3)
