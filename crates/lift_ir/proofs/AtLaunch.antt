-- Layouts of the source, case by case: at a launch their lengths have the values that the typing
-- relation says, and what each is lowered to has its type and its source.
use Rattle.std.proofs.Common.{◌≡◌, ℕ, zero, suc, ◌+◌, ◌-◌, ◌*◌, ◌/◌, ◌<◌, ◌≤◌, ◌^◌, List, [], ◌∷◌, length, refl, sym, ap, ◌∙◌, subst, arith, ℤ, pos, negsuc, ◌+ℤ◌, ◌*ℤ◌, ◌≤ℤ◌, inl, inr}
use Rattle.std.proofs.lemmas.Int.{ints}
use Rattle.std.proofs.Math.Nat.{mul-div_cancel_left, mul-le-mul_left, mul-le-mul_right}
use Rattle.size_arith.specs.declared.names.Name.{Name}
use Rattle.size_arith.specs.declared.poly.Monomial.{Monomial}
use Rattle.size_arith.specs.Polynomial.{value_at, monomial_at, product, number, of_monomial, plus, minus, times, quotient}
use Rattle.size_arith.specs.Shown.{ShownAtLeast}
use Rattle.size_arith.proofs.Values.{value-plus, value-minus, value-times}
use Rattle.lift_tree.specs.declared.layout.Layout as layouts
use Rattle.lift_tree.specs.declared.layout.Layout.TheVariants as layout
use Rattle.lift_tree.specs.declared.length.Factor.{Factor}
use Rattle.lift_tree.specs.declared.length.Factor.TheVariants as factor
use Rattle.lift_tree.specs.declared.term.UnaryForm.{UnaryForm}
use Rattle.lift_tree.specs.declared.term.UnaryForm.TheVariants as unary
use Rattle.lift_tree.specs.Meaning.{World, product_at}
use Rattle.lift_tree.specs.Tree as tree
use Rattle.lift_tree.specs.Tree.{Tree}
use Rattle.lift_tree.specs.Types as types
use Rattle.lift_tree.specs.Types.{PlainTy, IsFormed}
use Rattle.lift_tree.specs.WorkedOut.{nth_name, factor_monomial, product_of}
use Rattle.lift_tree.specs.Typing.{Declared, LayoutRow, UnaryRow, constant, IsAdmissible}
use Rattle.lift_tree.proofs.Sizes.{number_at, value-of_monomial, value-constant, value-quotient, product_value}
use Rattle.lift_ir.specs.Types.{ArrayOf, Scalar, four, IsShort, Ty}
use Rattle.lift_ir.specs.Layouts.{IsInvertible, Join, Layout, Split, Transpose, Reverse, Slide, Reshapes}
use Rattle.lift_ir.specs.Terms.{HasType, Reshape}
use Rattle.lift_ir.specs.Sources.{Lowers}
use Rattle.lift_ir.specs.AtLaunch.{natural, inner_of, outer_of, length_at, ty_at, layout_of}
use Rattle.lift_ir.specs.Lowering.{Lowered, Place, lower_stride, lower_unary}
use Rattle.lift_ir.proofs.Positions.{some_first, some_second}

-- a length that is shown at least 1
natural_is : (z : ℤ) → pos 0 ≤ℤ z → pos (natural z) ≡ z
natural_is (pos n) h = refl
natural_is (negsuc n) h = absurd (omega (arith, ints))

pos_same : (m n : ℕ) → pos m ≡ pos n → m ≡ n
pos_same m n e = cc

pos_times : (m n : ℕ) → pos m *ℤ pos n ≡ pos (m * n)
pos_times m n = refl

-- a product of numbers and sizes is none below zero
number_of_name : (i before : ℕ) (names : List Name) → (k : ℕ) × ((nth_name i before names).coefficient ≡ pos k)
number_of_name i before [] = (0, refl)
number_of_name zero before (n ∷ ns) = (n.multiple, refl)
number_of_name (suc i) before (n ∷ ns) = number_of_name i (suc before) ns

number_of_factor : (names : List Name) (f : Factor) → (k : ℕ) × ((factor_monomial names f).coefficient ≡ pos k)
number_of_factor names (factor.Number n) = (n, refl)
number_of_factor names (factor.Size i) = number_of_name i 0 names

number_of_product : (names : List Name) (fs : List Factor) → (k : ℕ) × ((product_of names fs).coefficient ≡ pos k)
number_of_product names [] = (1, refl)
number_of_product names (f ∷ fs) =
    let a = number_of_factor names f in
    let b = number_of_product names fs in
    (a.0 * b.0, ap (λ z. z *ℤ (product_of names fs).coefficient) a.1 ∙ ap (λ z. pos a.0 *ℤ z) b.1 ∙ pos_times a.0 b.0)

value_of_product : (names : List Name) (ys : List ℕ) (fs : List Factor) → (k : ℕ) × (monomial_at ys (product_of names fs) ≡ pos k)
value_of_product names ys fs =
    let a = number_of_product names fs in
    let powers = product ys (product_of names fs).powers in
    (a.0 * powers, ap (λ z. z *ℤ pos powers) a.1 ∙ pos_times a.0 powers)

-- what makes a number above 0 of one is above 0 too
other_factor : (k n : ℕ) (z : ℤ) → pos n ≡ pos k *ℤ z → 0 < n → (q : ℕ) × (z ≡ pos q) × (n ≡ k * q)
other_factor k n (pos q) e h = (q, refl, pos_same n (k * q) e)
other_factor k n (negsuc q) e h = absurd (omega (arith, ints))

module _ (d : Declared) (bases : List ℕ) (shown : (k : ℕ) (p : List Monomial) → ShownAtLeast k d.names p → pos k ≤ℤ value_at bases p) where
  abbrev at : List Monomial → ℕ
  at n = length_at bases n

  long : (n : List Monomial) → ShownAtLeast 1 d.names n → (pos (at n) ≡ value_at bases n) × (0 < at n)
  long n s =
      let a = shown 1 n s in
      let e = natural_is (value_at bases n) (omega (arith, ints)) in
      (e, omega (arith, ints))

  -- a form's row at a launch: through b's own equation
  abbrev Of : (b a : PlainTy) → UnaryForm → Type 0
  Of b a f = Reshapes (length_at bases) (layout_of f a b) (ty_at bases b) (ty_at bases a)

  quotient_is : (n q : List Monomial) (m : Monomial) (k : ℕ) → monomial_at bases m ≡ pos k → value_at bases n ≡ monomial_at bases m *ℤ value_at bases q → pos (at n) ≡ value_at bases n → pos (at q) ≡ value_at bases q → at n ≡ k * at q
  quotient_is n q m k e f en eq = pos_same (at n) (k * at q) (en ∙ f ∙ ap (λ z. z *ℤ value_at bases q) e ∙ ap (λ z. pos k *ℤ z) (sym eq) ∙ pos_times k (at q))

  pub split_reshapes : (fs : List Factor) (b a : PlainTy) → IsFormed d.names b → UnaryRow d.names (unary.Layout (layout.Split fs)) b a → Of b a (unary.Layout (layout.Split fs))
  split_reshapes fs b a fb r =
      let x = r.0 in
      let n = r.1 in
      let m = product_of d.names fs in
      let size = of_monomial m in
      let q = quotient m n in
      let formed = subst (IsFormed d.names) r.4 r.5 in
      let child = subst (IsFormed d.names) r.2 fb in
      let es = long size formed.1.0 in
      let e : monomial_at bases m ≡ pos (at size) = sym (value-of_monomial bases m) ∙ sym es.0 in
      let whole : at n ≡ at size * at q = quotient_is n q m (at size) e (value-quotient bases m n r.3) (long n child.0).0 (long q formed.0).0 in
      let divided : at n / at size ≡ at q = ap (λ z. z / at size) whole ∙ mul-div_cancel_left (at q) es.1 in
      let back : at n / at size * at size ≡ at n = ap (λ z. z * at size) divided ∙ (let y : at q * at size ≡ at size * at q = grind arith in y) ∙ sym whole in
      subst (λ z. Reshapes (length_at bases) (Split (inner_of z)) (ty_at bases b) (ty_at bases a)) (sym r.4)
      (subst (λ z. Reshapes (length_at bases) (Split size) (ty_at bases z) (ty_at bases a)) (sym r.2) (es.1, back, ap (ty_at bases) r.4 ∙ ap (λ z. ArrayOf z (ArrayOf (at size) (ty_at bases x))) (sym divided)))

  four_is : at (constant 4) ≡ 4
  four_is = ap natural (value-constant bases 4)

  pub vector_reshapes : (b a : PlainTy) → IsFormed d.names b → UnaryRow d.names (unary.Layout layout.AsVector) b a → Of b a (unary.Layout layout.AsVector)
  vector_reshapes b a fb r =
      let n = r.0 in
      let m = number (pos 4) in
      let q = quotient m n in
      let formed = subst (IsFormed d.names) r.3 r.4 in
      let child = subst (IsFormed d.names) r.1 fb in
      let whole : at n ≡ 4 * at q = quotient_is n q m 4 (number_at bases (pos 4)) (value-quotient bases m n r.2) (long n child.0).0 (long q formed.0).0 in
      let divided : at n / 4 ≡ at q = ap (λ z. z / 4) whole ∙ mul-div_cancel_left (at q) (omega arith) in
      let back : at n / 4 * 4 ≡ at n = ap (λ z. z * 4) divided ∙ (let y : at q * 4 ≡ 4 * at q = omega arith in y) ∙ sym whole in
      subst (λ z. Reshapes (length_at bases) (Split (constant 4)) (ty_at bases z) (ty_at bases a)) (sym r.1)
      (at_four (at n) (at (constant 4)) (ty_at bases a) four_is back (ap (ty_at bases) r.3 ∙ ap (λ z. ArrayOf z four) (sym divided)))
    where
      at_four : (n k : ℕ) (u : Ty) → k ≡ 4 → n / 4 * 4 ≡ n → u ≡ ArrayOf (n / 4) four → (0 < k) × (n / k * k ≡ n) × (u ≡ ArrayOf (n / k) (ArrayOf k Scalar))
      at_four n k u e b t = subst (λ z. (0 < z) × (n / z * z ≡ n) × (u ≡ ArrayOf (n / z) (ArrayOf z Scalar))) (sym e) (omega arith, b, t)

  pub scalar_reshapes : (b a : PlainTy) → IsFormed d.names b → UnaryRow d.names (unary.Layout layout.AsScalar) b a → Of b a (unary.Layout layout.AsScalar)
  scalar_reshapes b a fb r =
      let n = r.0 in
      let child = subst (IsFormed d.names) r.1 fb in
      let en = long n child.0 in
      let total : at (times n (constant 4)) ≡ at n * 4 = ap natural (value-times bases n (constant 4) ∙ ap (λ z. value_at bases n *ℤ z) (value-constant bases 4) ∙ ap (λ z. z *ℤ pos 4) (sym en.0)) in
      subst (λ z. Reshapes (length_at bases) (Join (constant 4)) (ty_at bases z) (ty_at bases a)) (sym r.1)
      (at_four (at n) (at (constant 4)) (ty_at bases a) four_is (ap (ty_at bases) r.2 ∙ ap (λ z. ArrayOf z Scalar) total))
    where
      at_four : (n k : ℕ) (u : Ty) → k ≡ 4 → u ≡ ArrayOf (n * 4) Scalar → (0 < k) × (4 ≡ k) × (u ≡ ArrayOf (n * k) Scalar)
      at_four n k u e t = subst (λ z. (0 < z) × (4 ≡ z) × (u ≡ ArrayOf (n * z) Scalar)) (sym e) (omega arith, refl, t)

  pub join_reshapes : (b a : PlainTy) → IsFormed d.names b → UnaryRow d.names (unary.Layout layout.Join) b a → Of b a (unary.Layout layout.Join)
  join_reshapes b a fb r =
      let x = r.0 in
      let m = r.1 in
      let n = r.2 in
      let child = subst (IsFormed d.names) r.3 fb in
      let em = long m child.1.0 in
      let en = long n child.0 in
      let product : value_at bases (times n m) ≡ pos (at n * at m) = value-times bases n m ∙ ap (λ z. z *ℤ value_at bases m) (sym en.0) ∙ ap (λ z. pos (at n) *ℤ z) (sym em.0) ∙ pos_times (at n) (at m) in
      subst (λ z. Reshapes (length_at bases) (layout_of (unary.Layout layout.Join) a z) (ty_at bases z) (ty_at bases a)) (sym r.3) (em.1, refl, ap (ty_at bases) r.4 ∙ ap (λ z. ArrayOf (natural z) (ty_at bases x)) product)

  pub transpose_reshapes : (b a : PlainTy) → IsFormed d.names b → UnaryRow d.names (unary.Layout layout.Transpose) b a → Of b a (unary.Layout layout.Transpose)
  transpose_reshapes b a fb r =
      let child = subst (IsFormed d.names) r.3 fb in
      subst (λ z. Reshapes (length_at bases) Transpose (ty_at bases z) (ty_at bases a)) (sym r.3) ((long r.2 child.0).1, ap (ty_at bases) r.4)

  pub reverse_reshapes : (b a : PlainTy) → IsFormed d.names b → UnaryRow d.names (unary.Layout layout.Reverse) b a → Of b a (unary.Layout layout.Reverse)
  reverse_reshapes b a fb r =
      subst (λ z. Reshapes (length_at bases) (Reverse (outer_of z)) (ty_at bases z) (ty_at bases a)) (sym r.2) (refl, ap (ty_at bases) r.3)

  -- the lengths of a stride's rows and columns
  pub record Strides (fs : List Factor) (b a : PlainTy) : Type 0 where
    pub element : PlainTy
    pub step : ℕ
    pub rest : ℕ
    pub step_is : at (of_monomial (product_of d.names fs)) ≡ step
    pub rest_is : at (quotient (product_of d.names fs) (outer_of b)) ≡ rest
    pub some_step : 0 < step
    pub some_rest : 0 < rest
    pub operand : ty_at bases b ≡ ArrayOf (step * rest) (ty_at bases element)
    pub result : ty_at bases a ≡ ArrayOf (step * rest) (ty_at bases element)

  pub stride_lengths : (fs : List Factor) (b a : PlainTy) → IsFormed d.names b → UnaryRow d.names (unary.Layout (layout.Stride fs)) b a → Strides fs b a
  stride_lengths fs b a fb r =
      let x = r.0 in
      let n = r.1 in
      let m = product_of d.names fs in
      let child = subst (IsFormed d.names) r.2 fb in
      let en = long n child.0 in
      let k = value_of_product d.names bases fs in
      let e : pos (at n) ≡ pos k.0 *ℤ value_at bases (quotient m n) = en.0 ∙ value-quotient bases m n r.3 ∙ ap (λ z. z *ℤ value_at bases (quotient m n)) k.1 in
      let q = other_factor k.0 (at n) (value_at bases (quotient m n)) e en.1 in
      let array : ty_at bases (types.ArrayOf x n) ≡ ArrayOf (k.0 * q.0) (ty_at bases x) = ap (λ z. ArrayOf z (ty_at bases x)) q.2 in
      record {
        element = x;
        step = k.0;
        rest = q.0;
        step_is = ap natural (value-of_monomial bases m ∙ k.1);
        rest_is = ap (λ z. at (quotient m (outer_of z))) r.2 ∙ ap natural q.1;
        some_step = some_first k.0 q.0 (at n) q.2 en.1;
        some_rest = some_second k.0 q.0 (at n) q.2 en.1;
        operand = ap (ty_at bases) r.2 ∙ array;
        result = ap (ty_at bases) r.4 ∙ array;
      }

  -- a stride, through its rows and its columns
  short_rows : (m q : ℕ) → m * q < 2 ^ 31 → 0 < m → 0 < q → (m < 2 ^ 31) × (q < 2 ^ 31)
  short_rows zero q lt a b = absurd (omega arith)
  short_rows (suc m) zero lt a b = absurd (omega arith)
  short_rows (suc m) (suc q) lt a b =
      let wide = mul-le-mul_left {m = 1} {n = suc q} (suc m) (omega arith) in
      let deep = mul-le-mul_right {m = 1} {n = suc m} (suc q) (omega arith) in
      (omega arith, omega arith)

  stride_typed : (src E : ℕ → Ty) (fs : List Factor) (b a : PlainTy) (t : Lowered) → Strides fs b a → HasType (length_at bases) src E t (ty_at bases b) → IsShort (ty_at bases b) → IsShort (ty_at bases a) → HasType (length_at bases) src E (lower_stride d.names fs b t) (ty_at bases a)
  stride_typed src E fs b a t s h short_b short_a =
      let m = s.step in
      let q = s.rest in
      let x = ty_at bases s.element in
      let whole = subst IsShort s.operand short_b in
      let sides = short_rows m q whole.0 s.some_step s.some_rest in
      let rows = ArrayOf q (ArrayOf m x) in
      let columns = ArrayOf m (ArrayOf q x) in
      let split : Reshapes (length_at bases) (Split (of_monomial (product_of d.names fs))) (ty_at bases b) rows =
      subst (λ z. Reshapes (length_at bases) (Split (of_monomial (product_of d.names fs))) z rows) (sym s.operand)
      (rw s.step_is (s.some_step, back m q s.some_step, ap (λ z. ArrayOf z (ArrayOf m x)) (sym (mul-div_cancel_left q s.some_step)))) in
      let join : Reshapes (length_at bases) (Join (quotient (product_of d.names fs) (outer_of b))) columns (ty_at bases a) =
      rw s.rest_is (s.some_rest, refl, s.result) in
      (columns, (rows, (ty_at bases b, h, split, short_b, (sides.1, (sides.0, whole.1)), tt), (s.some_rest, refl), (sides.1, (sides.0, whole.1)), (sides.0, (sides.1, whole.1)), tt), join, (sides.0, (sides.1, whole.1)), short_a, tt)
    where
      back : (m q : ℕ) → 0 < m → m * q / m * m ≡ m * q
      back m q h = ap (λ z. z * m) (mul-div_cancel_left q h) ∙ (let y : q * m ≡ m * q = grind arith in y)

  -- what a layout is lowered to has its type
  pub layout_typed : (src E : ℕ → Ty) (p : Place) (l : layouts.Layout) (b a : PlainTy) (t : Lowered) → IsFormed d.names b → UnaryRow d.names (unary.Layout l) b a → HasType (length_at bases) src E t (ty_at bases b) → IsShort (ty_at bases b) → IsShort (ty_at bases a)
      → HasType (length_at bases) src E (lower_unary d.names p (unary.Layout l) a b t) (ty_at bases a)
  layout_typed src E p layout.Join b a t f r h short_b short_a = (ty_at bases b, h, join_reshapes b a f r, short_b, short_a, tt)
  layout_typed src E p layout.Transpose b a t f r h short_b short_a = (ty_at bases b, h, transpose_reshapes b a f r, short_b, short_a, tt)
  layout_typed src E p (layout.Split fs) b a t f r h short_b short_a = (ty_at bases b, h, split_reshapes fs b a f r, short_b, short_a, tt)
  layout_typed src E p layout.Reverse b a t f r h short_b short_a = (ty_at bases b, h, reverse_reshapes b a f r, short_b, short_a, tt)
  layout_typed src E p layout.AsVector b a t f r h short_b short_a = (ty_at bases b, h, vector_reshapes b a f r, short_b, short_a, tt)
  layout_typed src E p layout.AsScalar b a t f r h short_b short_a = (ty_at bases b, h, scalar_reshapes b a f r, short_b, short_a, tt)
  layout_typed src E p (layout.Stride fs) b a t f r h short_b short_a = stride_typed src E fs b a t (stride_lengths fs b a f r) h short_b short_a

  pub slide_reshapes : (s t : ℕ) (b a : PlainTy) → IsFormed d.names b → UnaryRow d.names (unary.Slide s t) b a → Of b a (unary.Slide s t)
  slide_reshapes s t b a fb r =
      let x = r.0 in
      let n = r.1 in
      let rest = minus n (constant s) in
      let q = quotient (number (pos t)) rest in
      let child = subst (IsFormed d.names) r.2 fb in
      let formed = subst (IsFormed d.names) r.6 r.7 in
      let en = long n child.0 in
      let X = ty_at bases x in
      let least = shown 0 rest r.4 in
      let less = value-minus bases n (constant s) in
      let size = value-constant bases s in
      let within : s ≤ at n = (let z = en.0 in omega (arith, ints)) in
      let er : pos (at n - s) ≡ value_at bases rest = (let z = en.0 in omega (arith, ints)) in
      let f = value-quotient bases (number (pos t)) rest r.5 ∙ ap (λ z. z *ℤ value_at bases q) (number_at bases (pos t)) in
      let total = long (plus q (constant 1)) formed.0 in
      let sum = value-plus bases q (constant 1) in
      let one = value-constant bases 1 in
      let qn : pos 0 ≤ℤ value_at bases q = (let z = total.0 in let y = total.1 in omega (arith, ints)) in
      let eq = natural_is (value_at bases q) qn in
      let whole : at n - s ≡ t * at q = pos_same (at n - s) (t * at q) (er ∙ f ∙ ap (λ z. pos t *ℤ z) (sym eq) ∙ pos_times t (at q)) in
      let divided : (at n - s) / t ≡ at q = ap (λ z. z / t) whole ∙ mul-div_cancel_left (at q) r.3 in
      let back : (at n - s) / t * t ≡ at n - s = ap (λ z. z * t) divided ∙ (let y : at q * t ≡ t * at q = grind arith in y) ∙ sym whole in
      let count : at (plus q (constant 1)) ≡ (at n - s) / t + 1 = pos_same _ _ (total.0 ∙ sum ∙ ap (λ z. value_at bases q +ℤ z) one ∙ ap (λ z. z +ℤ pos 1) (sym eq) ∙ ap (λ z. pos (z + 1)) (sym divided)) in
      let inner : at (constant s) ≡ s = ap natural size in
      subst (λ z. Reshapes (length_at bases) (Slide s t) (ty_at bases z) (ty_at bases a)) (sym r.2)
      (r.3, within, back, ap (ty_at bases) r.6 ∙ ap (λ z. ArrayOf z (ArrayOf (at (constant s)) X)) count ∙ ap (λ z. ArrayOf ((at n - s) / t + 1) (ArrayOf z X)) inner)

  pub pad_reshapes : (l k : ℕ) (b a : PlainTy) → IsFormed d.names b → UnaryRow d.names (unary.Pad l k) b a → Of b a (unary.Pad l k)
  pad_reshapes l k b a fb r =
      let x = r.0 in
      let n = r.1 in
      let child = subst (IsFormed d.names) r.2 fb in
      let en = long n child.0 in
      let one = value-plus bases (plus (constant l) n) (constant k) in
      let two = value-plus bases (constant l) n in
      let before = value-constant bases l in
      let after = value-constant bases k in
      let total : value_at bases (plus (plus (constant l) n) (constant k)) ≡ pos (l + at n + k) = (let z = en.0 in omega (arith, ints)) in
      subst (λ z. Reshapes (length_at bases) (layout_of (unary.Pad l k) a z) (ty_at bases z) (ty_at bases a)) (sym r.2) (en.1, refl, ap (ty_at bases) r.3 ∙ ap (λ z. ArrayOf (natural z) (ty_at bases x)) total)

module _ (d : Declared) (w : World) (ok : IsAdmissible d w) (few : length d.names ≤ 8) where
  -- a split's length is its product of numbers and sizes
  pub split_size : (fs : List Factor) → length_at w.bases (of_monomial (product_of d.names fs)) ≡ product_at w.sizes fs
  split_size fs =
      let e : monomial_at w.bases (product_of d.names fs) ≡ pos (product_at w.sizes fs) = product_value d.names w.bases ok.bases few fs ∙ ap (λ ss. pos (product_at ss fs)) (sym ok.sizes) in
      ap natural (value-of_monomial w.bases (product_of d.names fs) ∙ e)

  -- what a layout is lowered to is lowered from it
  pub layout_lowers : (p : Place) (l : layouts.Layout) (b a : PlainTy) (n i : ℕ) (t : Tree) (x : Lowered) → LayoutRow d.names l b a → Lowers (length_at w.bases) w n i t x → Lowers (length_at w.bases) w n i (tree.Unary (unary.Layout l) t) (lower_unary d.names p (unary.Layout l) a b x)
  layout_lowers p layout.Join b a n i t x r h = (t, inl refl, h)
  layout_lowers p layout.Transpose b a n i t x r h = (t, refl, h)
  layout_lowers p (layout.Split fs) b a n i t x r h = (t, inl (fs, refl, sym (ap (λ z. length_at w.bases (inner_of z)) r.4 ∙ split_size fs)), h)
  layout_lowers p layout.AsVector b a n i t x r h = (t, inr (refl, ap natural (value-constant w.bases 4)), h)
  layout_lowers p layout.AsScalar b a n i t x r h = (t, inr (inl refl), h)
  layout_lowers p layout.Reverse b a n i t x r h = (t, refl, h)
  layout_lowers p (layout.Stride fs) b a n i t x r h =
      let split = tree.Unary (unary.Layout (layout.Split fs)) t in
      (tree.Unary (unary.Layout layout.Transpose) split, inr (inr (fs, t, refl, refl)), (split, refl, (t, inl (fs, refl, sym (split_size fs)), h)))

-- ---- a layout is lowered to a few reshapes that can be written through
-- what holds of so many reshapes of a term, at least one and at most three, holds of this one
pub record AfterReshapes (P : ℕ → Lowered → Type 0) (t : Lowered) : Type 0 where
  pub count : ℕ
  pub some : 1 ≤ count
  pub few : count ≤ 3
  pub holds : P count t

-- from the operand to the layout of it, reshape by reshape
pub by_reshapes : (P : ℕ → Lowered → Type 0) → ((k : ℕ) (y : Layout (List Monomial)) (t : Lowered) → k < 3 → IsInvertible y → P k t → P (suc k) (Reshape y t))
    → (names : List Name) (p : Place) (l : layouts.Layout) (a b : PlainTy) (t : Lowered) → P 0 t → AfterReshapes P (lower_unary names p (unary.Layout l) a b t)
by_reshapes P h names p layout.Join a b t k = record { count = 1; some = omega arith; few = omega arith; holds = h 0 _ t (omega arith) tt k }
by_reshapes P h names p layout.Transpose a b t k = record { count = 1; some = omega arith; few = omega arith; holds = h 0 _ t (omega arith) tt k }
by_reshapes P h names p (layout.Split fs) a b t k = record { count = 1; some = omega arith; few = omega arith; holds = h 0 _ t (omega arith) tt k }
by_reshapes P h names p layout.AsVector a b t k = record { count = 1; some = omega arith; few = omega arith; holds = h 0 _ t (omega arith) tt k }
by_reshapes P h names p layout.AsScalar a b t k = record { count = 1; some = omega arith; few = omega arith; holds = h 0 _ t (omega arith) tt k }
by_reshapes P h names p layout.Reverse a b t k = record { count = 1; some = omega arith; few = omega arith; holds = h 0 _ t (omega arith) tt k }
by_reshapes P h names p (layout.Stride fs) a b t k = record {
  count = 3;
  some = omega arith;
  few = omega arith;
  holds = h 2 _ _ (omega arith) tt (h 1 _ _ (omega arith) tt (h 0 _ t (omega arith) tt k));
}
