-- The value of each form has its row's type.
use Rattle.std.specs.Prelude.{map}
use Rattle.std.proofs.Common.{◌≡◌, ℕ, suc, ◌+◌, ◌-◌, ◌/◌, ◌^◌, ◌<◌, ◌≤◌, List, [], ◌∷◌, length, refl, sym, ap, ◌∙◌, subst, arith, pos, ◌*ℤ◌, ◌≤ℤ◌}
use Rattle.std.proofs.lemmas.Int.{ints}
use Rattle.std.proofs.Math.Nat.{add-div_right}
use Rattle.scalar_ops.specs.declared.op.Op.{Op}
use Rattle.scalar_ops.specs.declared.op.Op.TheVariants as op
use Rattle.scalar_ops.specs.Operators.{apply_op, combine, op_of}
use Rattle.scalar_ops.proofs.Fits.{apply_op-fits}
use Rattle.size_arith.specs.declared.poly.Monomial.{Monomial}
use Rattle.size_arith.specs.Polynomial.{value_at, number, plus, minus, quotient}
use Rattle.size_arith.specs.Shown.{ShownAtLeast}
use Rattle.size_arith.proofs.Values.{value-plus, value-minus}
use Rattle.lift_tree.specs.declared.term.Operator.{Operator}
use Rattle.lift_tree.specs.declared.term.UnaryForm.{UnaryForm}
use Rattle.lift_tree.specs.declared.term.UnaryForm.TheVariants.{Div, Rem, First, Second, Layout, Slide, Pad, ToLocal, ToPrivate, Then}
use Rattle.lift_tree.specs.declared.term.BinaryForm.{BinaryForm}
use Rattle.lift_tree.specs.declared.term.BinaryForm.TheVariants as binary
use Rattle.lift_tree.specs.Values.{Value, Word, Both, array, members, word, first, second}
use Rattle.lift_tree.specs.Lists.{Every, fold_left, zip_with, pieces, pieces_that_fit, padded}
use Rattle.lift_tree.specs.Meaning.{World, on_lanes, array_of_rows, unary_value, binary_value, scalar_op}
use Rattle.lift_tree.specs.Types.{PlainTy, U32, U32x4, PairOf, ArrayOf, IsNumber, IsVector, HasType, IsFormed}
use Rattle.lift_tree.specs.Typing.{Declared, IsNumeric, UnaryRow, BinaryRow, OperatorRow, constant, IsAdmissible}
use Rattle.lift_tree.proofs.Members.{members-array, length-map, every_map, every_to, every_and, length-pieces, pieces_long, every-pieces, length-padded, every-padded}
use Rattle.lift_tree.proofs.Sizes.{number_at, value-constant, value-quotient}
use Rattle.lift_tree.proofs.Layouts.{layout_has}
use Rattle.lift_tree.proofs.Rows.{list_has, list_have, quotient_is, rows_has}

word_fits : (ys : List ℕ) (v : Value) → HasType ys U32 v → word v < 2 ^ 32
word_fits ys v t = subst (λ z. word z < 2 ^ 32) (sym t.1) t.2

pub word_has : (ys : List ℕ) (n : ℕ) → n < 2 ^ 32 → HasType ys U32 (Word n)
word_has ys n h = (n, refl, h)

-- ---- lane by lane
module _ (f : ℕ → ℕ → ℕ) (fits : (a b : ℕ) → a < 2 ^ 32 → b < 2 ^ 32 → f a b < 2 ^ 32) where
  abbrev In : Value → Value → Value
  In a b = Word (f (word a) (word b))

  small : (v : Value) → IsNumber v → word v < 2 ^ 32
  small v t = subst (λ z. word z < 2 ^ 32) (sym t.1) t.2

  in_number : (a b : Value) → IsNumber a → IsNumber b → IsNumber (In a b)
  in_number a b p q = (_, refl, fits (word a) (word b) (small a p) (small b q))

  pub lanes_of_numbers : (v u : Value) → IsNumber v → IsNumber u → on_lanes f v u ≡ In v u
  lanes_of_numbers v u p q = rw (p.1, q.1) refl

  zips : (xs ys : List Value) → length xs ≡ length ys → Every IsNumber xs → Every IsNumber ys → (length (zip_with In xs ys) ≡ length xs) × Every IsNumber (zip_with In xs ys)
  zips [] ys e a b = (refl, tt)
  zips (x ∷ xs) [] e a b = absurd (omega arith)
  zips (x ∷ xs) (y ∷ ys) e a b = let z = zips xs ys (omega arith) a.1 b.1 in (ap suc z.0, (in_number x y a.0 b.0, z.1))

  vector_of : (v : Value) (xs : List Value) → v ≡ array xs → length xs ≡ 4 → Every IsNumber xs → IsVector v
  vector_of v xs e l a = (xs, e, l, a)

  -- on two lists with a first member each
  both_lists : (x y : Value) (xs ys : List Value) → on_lanes f (array (x ∷ xs)) (array (y ∷ ys)) ≡ array (zip_with In (x ∷ xs) (y ∷ ys))
  both_lists x y xs ys = ap (λ l. array (In x y ∷ l)) (ap (λ l. zip_with In l (members (array ys))) (members-array xs) ∙ ap (zip_with In xs) (members-array ys))

  left_list : (x : Value) (n : ℕ) (xs : List Value) → on_lanes f (array (x ∷ xs)) (Word n) ≡ array (map (λ a. In a (Word n)) (x ∷ xs))
  left_list x n xs = ap (λ l. array (In x (Word n) ∷ map (λ a. In a (Word n)) l)) (members-array xs)

  right_list : (n : ℕ) (y : Value) (ys : List Value) → on_lanes f (Word n) (array (y ∷ ys)) ≡ array (map (λ b. In (Word n) b) (y ∷ ys))
  right_list n y ys = ap (λ l. array (In (Word n) y ∷ map (λ b. In (Word n) b) l)) (members-array ys)

  pub numbers_have : (v u : Value) → IsNumber v → IsNumber u → IsNumber (on_lanes f v u)
  numbers_have v u p q = subst IsNumber (sym (lanes_of_numbers v u p q)) (in_number v u p q)

  pub vectors_have : (v u : Value) → IsVector v → IsVector u → IsVector (on_lanes f v u)
  vectors_have v u p q = subst IsVector (sym (ap (λ z. on_lanes f z u) p.1 ∙ ap (on_lanes f (array p.0)) q.1)) (go p.0 q.0 p.2 q.2 p.3 q.3)
    where
      go : (xs ys : List Value) → length xs ≡ 4 → length ys ≡ 4 → Every IsNumber xs → Every IsNumber ys → IsVector (on_lanes f (array xs) (array ys))
      go [] ys k l a b = absurd (omega arith)
      go (x ∷ xs) [] k l a b = absurd (omega arith)
      go (x ∷ xs) (y ∷ ys) k l a b =
          let z = zips (x ∷ xs) (y ∷ ys) (k ∙ sym l) a b in
          vector_of _ (zip_with In (x ∷ xs) (y ∷ ys)) (both_lists x y xs ys) (z.0 ∙ k) z.1

  pub left_has : (v u : Value) → IsVector v → IsNumber u → IsVector (on_lanes f v u)
  left_has v u p q = subst IsVector (sym (ap (λ z. on_lanes f z u) p.1 ∙ ap (on_lanes f (array p.0)) q.1)) (go p.0 q.0 q.2 p.2 p.3)
    where
      go : (xs : List Value) (n : ℕ) → n < 2 ^ 32 → length xs ≡ 4 → Every IsNumber xs → IsVector (on_lanes f (array xs) (Word n))
      go [] n lt k a = absurd (omega arith)
      go (x ∷ xs) n lt k a =
          vector_of _ (map (λ a. In a (Word n)) (x ∷ xs)) (left_list x n xs) (length-map (λ a. In a (Word n)) (x ∷ xs) ∙ k)
          (every_map IsNumber IsNumber (λ a. In a (Word n)) (x ∷ xs) (λ b h. in_number b (Word n) h (n, refl, lt)) a)

  pub right_has : (v u : Value) → IsNumber v → IsVector u → IsVector (on_lanes f v u)
  right_has v u p q = subst IsVector (sym (ap (λ z. on_lanes f z u) p.1 ∙ ap (on_lanes f (Word p.0)) q.1)) (go q.0 p.0 p.2 q.2 q.3)
    where
      go : (ys : List Value) (n : ℕ) → n < 2 ^ 32 → length ys ≡ 4 → Every IsNumber ys → IsVector (on_lanes f (Word n) (array ys))
      go [] n lt k a = absurd (omega arith)
      go (y ∷ ys) n lt k a =
          vector_of _ (map (λ b. In (Word n) b) (y ∷ ys)) (right_list n y ys) (length-map (λ b. In (Word n) b) (y ∷ ys) ∙ k)
          (every_map IsNumber IsNumber (λ b. In (Word n) b) (y ∷ ys) (λ b h. in_number (Word n) b (n, refl, lt) h) a)

module _ (d : Declared) (w : World) (ok : IsAdmissible d w) (few : length d.names ≤ 8) (shown : (k : ℕ) (p : List Monomial) → ShownAtLeast k d.names p → pos k ≤ℤ value_at w.bases p) where
  slide_has : (x : PlainTy) (n q : List Monomial) (s t : ℕ) (v : Value) → 0 < t → pos 0 ≤ℤ value_at w.bases (minus n (constant s)) → value_at w.bases (minus n (constant s)) ≡ pos t *ℤ value_at w.bases q → HasType w.bases (ArrayOf x n) v
      → HasType w.bases (ArrayOf (ArrayOf x (constant s)) (plus q (constant 1))) (array_of_rows (pieces (pieces_that_fit s t (length (members v))) s t (members v)))
  slide_has x n q s t v h least f a =
      let u = list_have w.bases x n v a in
      let xs = members v in
      let less = value-minus w.bases n (constant s) in
      let size = value-constant w.bases s in
      let within : s ≤ length xs = omega (arith, ints) in
      let long : pos (length xs - s) ≡ pos t *ℤ value_at w.bases q = omega (arith, ints) in
      let count = quotient_is t (length xs - s) (value_at w.bases q) h long in
      let fits : pieces_that_fit s t (length xs) ≡ (length xs - s) / t + 1 = more (length xs) s t h within in
      let c = (length xs - s) / t + 1 in
      let one = value-constant w.bases 1 in
      let sum = value-plus w.bases q (constant 1) in
      let total : pos c ≡ value_at w.bases (plus q (constant 1)) = omega (arith, ints) in
      subst (λ k. HasType w.bases (ArrayOf (ArrayOf x (constant s)) (plus q (constant 1))) (array_of_rows (pieces k s t xs))) (sym fits)
      (rows_has w.bases x (constant s) (plus q (constant 1)) _ (ap pos (length-pieces c s t xs) ∙ total)
      (every_and _ _ _ (every_to (λ r g. ap pos g ∙ sym size) _ (pieces_long c s t xs (omega arith))) (every-pieces (HasType w.bases x) c s t xs u.1)))
    where
      more : (n s t : ℕ) → 0 < t → s ≤ n → (n + t - s) / t ≡ (n - s) / t + 1
      more n s t h le = let e : n + t - s ≡ (n - s) + t = omega arith in ap (λ k. k / t) e ∙ add-div_right (n - s) h

  -- by a number below 2^32 or not: only the left operand has to fit
  divided_has : (o : Op) (n : ℕ) → ((m : ℕ) → m < 2 ^ 32 → apply_op o m n < 2 ^ 32) → (b : PlainTy) (v : Value) → IsNumeric b → HasType w.bases b v → HasType w.bases b (on_lanes (apply_op o) v (Word n))
  divided_has o n fits U32 v h t = subst IsNumber (sym (ap (λ z. on_lanes (apply_op o) z (Word n)) t.1)) (_, refl, fits t.0 t.2)
  divided_has o n fits U32x4 v h t = subst IsVector (sym (ap (λ z. on_lanes (apply_op o) z (Word n)) t.1)) (go t.0 t.2 t.3)
    where
      go : (xs : List Value) → length xs ≡ 4 → Every IsNumber xs → IsVector (on_lanes (apply_op o) (array xs) (Word n))
      go [] k a = absurd (omega arith)
      go (x ∷ xs) k a = (
        map (λ a. Word (apply_op o (word a) n)) (x ∷ xs),
        ap (λ l. array (Word (apply_op o (word x) n) ∷ map (λ a. Word (apply_op o (word a) n)) l)) (members-array xs),
        length-map (λ a. Word (apply_op o (word a) n)) (x ∷ xs) ∙ k,
        every_map IsNumber IsNumber (λ a. Word (apply_op o (word a) n)) (x ∷ xs) (λ b h. (_, refl, fits (word b) (word_fits w.bases b h))) a,
      )
  divided_has o n fits _ v h t = absurd (assumption)

  operator_has : (o : Operator) (b c a : PlainTy) (v u : Value) → OperatorRow o b c a → HasType w.bases b v → HasType w.bases c u → HasType w.bases a (on_lanes (apply_op (scalar_op o)) v u)
  operator_has o U32 U32 a v u r s t = subst (λ z. HasType w.bases z (on_lanes (apply_op (scalar_op o)) v u)) (sym r) (numbers_have (apply_op (scalar_op o)) (apply_op-fits (scalar_op o)) v u s t)
  operator_has o U32 U32x4 a v u r s t = subst (λ z. HasType w.bases z (on_lanes (apply_op (scalar_op o)) v u)) (sym r.1) (right_has (apply_op (scalar_op o)) (apply_op-fits (scalar_op o)) v u s t)
  operator_has o U32x4 U32 a v u r s t = subst (λ z. HasType w.bases z (on_lanes (apply_op (scalar_op o)) v u)) (sym r.1) (left_has (apply_op (scalar_op o)) (apply_op-fits (scalar_op o)) v u s t)
  operator_has o U32x4 U32x4 a v u r s t = subst (λ z. HasType w.bases z (on_lanes (apply_op (scalar_op o)) v u)) (sym r.1) (vectors_have (apply_op (scalar_op o)) (apply_op-fits (scalar_op o)) v u s t)
  operator_has o _ _ a v u r s t = absurd (assumption)

  pub unary_has : (f : UnaryForm) (b a : PlainTy) (v : Value) → IsFormed d.names b → UnaryRow d.names f b a → HasType w.bases b v → HasType w.bases a (unary_value w f v)
  unary_has (Div n) b a v fb r t = subst (λ z. HasType w.bases z (on_lanes (apply_op op.Div) v (Word n))) (sym r.2) (divided_has op.Div n (λ m h. quotient_fits m n h) b v r.1 t)
    where
      quotient_fits : (m n : ℕ) → m < 2 ^ 32 → m / n < 2 ^ 32
      quotient_fits m n h = omega arith
  unary_has (Rem n) b a v fb r t = subst (λ z. HasType w.bases z (on_lanes (apply_op op.Rem) v (Word n))) (sym r.2) (divided_has op.Rem n (λ m h. omega arith) b v r.1 t)
  unary_has First b a v fb r t =
      let u : HasType w.bases (PairOf a r.0) v = subst (λ z. HasType w.bases z v) r.1 t in
      subst (λ z. HasType w.bases a (first z)) (sym u.2) u.3
  unary_has Second b a v fb r t =
      let u : HasType w.bases (PairOf r.0 a) v = subst (λ z. HasType w.bases z v) r.1 t in
      subst (λ z. HasType w.bases a (second z)) (sym u.2) u.4
  unary_has (Layout l) b a v fb r t = layout_has d w ok few shown l b a v fb r t
  unary_has (Slide s p) b a v fb r t =
      let n = r.1 in
      let rest = minus n (constant s) in
      let q = quotient (number (pos p)) rest in
      let e = value-quotient w.bases (number (pos p)) rest r.5 ∙ ap (λ z. z *ℤ value_at w.bases q) (number_at w.bases (pos p)) in
      subst
      (λ z. HasType w.bases z (array_of_rows (pieces (pieces_that_fit s p (length (members v))) s p (members v))))
      (sym r.6)
      (slide_has r.0 n q s p v r.3 (shown 0 rest r.4) e (subst (λ z. HasType w.bases z v) r.2 t))
  unary_has (Pad l k) b a v fb r t =
      let x = r.0 in
      let n = r.1 in
      let u = list_have w.bases x n v (subst (λ z. HasType w.bases z v) r.2 t) in
      let xs = members v in
      let child = subst (IsFormed d.names) r.2 fb in
      let one_more = shown 1 n child.0 in
      let least : 0 < length xs = omega (arith, ints) in
      let long = length-padded l k xs in
      let one = value-plus w.bases (plus (constant l) n) (constant k) in
      let two = value-plus w.bases (constant l) n in
      let before = value-constant w.bases l in
      let after = value-constant w.bases k in
      let total : pos (length (padded l k xs)) ≡ value_at w.bases (plus (plus (constant l) n) (constant k)) = omega (arith, ints) in
      subst
      (λ z. HasType w.bases z (array (padded l k xs)))
      (sym r.3)
      (list_has w.bases x (plus (plus (constant l) n) (constant k)) (padded l k xs) total (every-padded (HasType w.bases x) l k xs least u.1))
  unary_has ToLocal b a v fb r t = subst (λ z. HasType w.bases z v) r t
  unary_has ToPrivate b a v fb r t = subst (λ z. HasType w.bases z v) r t
  unary_has Then b a v fb r t = subst (λ z. HasType w.bases z v) r t

  pub binary_has : (f : BinaryForm) (b c a : PlainTy) (v u : Value) → BinaryRow f b c a → HasType w.bases b v → HasType w.bases c u → HasType w.bases a (binary_value f v u)
  binary_has (binary.Operator o) b c a v u r s t = operator_has o b c a v u r s t
  binary_has binary.Pair b c a v u r s t = subst (λ z. HasType w.bases z (Both v u)) (sym r.2) (v, u, refl, s, t)
  binary_has binary.Zip b c a v u r s t =
      let x = list_have w.bases r.0 r.2 v (subst (λ z. HasType w.bases z v) r.3 s) in
      let y = list_have w.bases r.1 r.2 u (subst (λ z. HasType w.bases z u) r.4 t) in
      let z = go r.0 r.1 (members v) (members u) (cc) x.1 y.1 in
      subst (λ z. HasType w.bases z (array (zip_with Both (members v) (members u)))) (sym r.5) (list_has w.bases (PairOf r.0 r.1) r.2 (zip_with Both (members v) (members u)) (ap pos z.0 ∙ x.0) z.1)
    where
      go : (x y : PlainTy) (xs us : List Value) → pos (length xs) ≡ pos (length us) → Every (HasType w.bases x) xs → Every (HasType w.bases y) us → (length (zip_with Both xs us) ≡ length xs) × Every (HasType w.bases (PairOf x y)) (zip_with Both xs us)
      go x y [] us e a b = (refl, tt)
      go x y (p ∷ xs) [] e a b = cc
      go x y (p ∷ xs) (q ∷ us) e a b = let z = go x y xs us (cc) a.1 b.1 in (ap suc z.0, ((p, q, refl, a.0, b.0), z.1))
  binary_has (binary.Reduce o) b c a v u r s t =
      let x = list_have w.bases U32 r.0 v (subst (λ z. HasType w.bases z v) r.1 s) in
      subst (λ z. HasType w.bases z (array (fold_left (λ p x. Word (combine o (word p) (word x))) u (members v) ∷ []))) (sym r.3)
      (list_has w.bases U32 (constant 1) (fold_left (λ p x. Word (combine o (word p) (word x))) u (members v) ∷ []) (sym (value-constant w.bases 1)) (go (members v) u x.1 (subst (λ z. HasType w.bases z u) r.2 t), tt))
    where
      go : (xs : List Value) (p : Value) → Every (HasType w.bases U32) xs → HasType w.bases U32 p → HasType w.bases U32 (fold_left (λ p x. Word (combine o (word p) (word x))) p xs)
      go [] p a h = h
      go (x ∷ xs) p a h = go xs (Word (combine o (word p) (word x))) a.1 (word_has w.bases _ (apply_op-fits (op_of o) (word p) (word x) (word_fits w.bases p h) (word_fits w.bases x a.0)))
