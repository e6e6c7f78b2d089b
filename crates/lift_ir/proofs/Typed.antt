-- A typed term's lowered term has its type at each admissible launch.
use Rattle.std.proofs.Common.{◌≡◌, ◌<◌, ℕ, zero, suc, Bool, true, false, List, [], ◌∷◌, Some, refl, sym, ap, ◌∙◌, subst, pos, ◌≤ℤ◌}
use Rattle.std.specs.Prelude.{slice_get, if◌then◌else◌}
use Rattle.size_arith.specs.declared.poly.Monomial.{Monomial}
use Rattle.size_arith.specs.Polynomial.{value_at}
use Rattle.size_arith.specs.Shown.{ShownAtLeast}
use Rattle.scalar_ops.specs.declared.op.Op.{Op}
use Rattle.scalar_ops.specs.declared.op.Op.TheVariants as op
use Rattle.scalar_ops.specs.declared.op.Reducer.TheVariants as reducer
use Rattle.lift_tree.specs.declared.term.Operator.{Operator}
use Rattle.lift_tree.specs.declared.term.Operator.TheVariants as operator
use Rattle.lift_tree.specs.declared.term.UnaryForm.TheVariants as unary
use Rattle.lift_tree.specs.declared.term.BinaryForm.TheVariants as binary
use Rattle.lift_tree.specs.Lists.{Every}
use Rattle.lift_tree.specs.Tree as tree
use Rattle.lift_tree.specs.Tree.{Tree}
use Rattle.lift_tree.specs.Types as types
use Rattle.lift_tree.specs.Types.{PlainTy, IsFormed}
use Rattle.lift_tree.specs.Meaning.{scalar_op}
use Rattle.lift_tree.specs.Typing.{Declared, IsNumeric, OperatorRow, is_lane_operator, constant}
use Rattle.lift_tree.specs.Annotations.{Annotation, Leaf, One, Two, Three, type_in, Annotates}
use Rattle.lift_tree.proofs.Formed.{formed_in}
use Rattle.lift_tree.proofs.Sizes.{value-constant}
use Rattle.kernel_tree.specs.Formula.{divides}
use Rattle.lift_ir.specs.Types.{Ty, PairOf, ArrayOf, IsWords, IsElement, IsFlat}
use Rattle.lift_ir.specs.Terms.{LoadsScalars, Term, HasType, push, acts_on_lanes}
use Rattle.lift_ir.specs.AtLaunch.{natural, length_at, ty_at, outer_of, types_at}
use Rattle.lift_ir.specs.Lowering.{Place, Written, Argument, Element, element_ty, is_element, element_of, Lowered, is_vector, divided, applied, placed, named, operand_place, value_place, body_place, lower_let, placed_element, lower}
use Rattle.lift_ir.specs.Lowerable.{SuitsPlace, IsLowerable}
use Rattle.lift_ir.proofs.AtLaunch.{layout_typed, slide_reshapes, pad_reshapes}
use Rattle.lift_ir.proofs.Lowering.{suits_named}

no_division : (o : Operator) → divides (scalar_op o) ≡ false
no_division (operator.Regrouping reducer.Add) = refl
no_division (operator.Regrouping reducer.Mul) = refl
no_division (operator.Regrouping reducer.Min) = refl
no_division (operator.Regrouping reducer.Max) = refl
no_division (operator.Regrouping reducer.And) = refl
no_division (operator.Regrouping reducer.Or) = refl
no_division (operator.Regrouping reducer.Xor) = refl
no_division operator.Sub = refl
no_division operator.Shl = refl
no_division operator.Shr = refl
no_division operator.Lt = refl
no_division operator.Eq = refl

acts : (o : Operator) → is_lane_operator o ≡ true → acts_on_lanes (scalar_op o) ≡ true
acts (operator.Regrouping reducer.Add) h = refl
acts (operator.Regrouping reducer.Mul) h = refl
acts (operator.Regrouping reducer.Min) h = refl
acts (operator.Regrouping reducer.Max) h = refl
acts (operator.Regrouping reducer.And) h = refl
acts (operator.Regrouping reducer.Or) h = refl
acts (operator.Regrouping reducer.Xor) h = refl
acts operator.Sub h = refl
acts operator.Shl h = refl
acts operator.Shr h = refl
acts operator.Lt h = absurd (cc)
acts operator.Eq h = absurd (cc)

pub numeric_element : (a : PlainTy) → IsNumeric a → types.IsElement a
numeric_element types.U32 h = tt
numeric_element types.U32x4 h = tt
numeric_element _ h = absurd (assumption)

pub operator_element : (o : Operator) (b c a : PlainTy) → OperatorRow o b c a → types.IsElement a
operator_element o types.U32 types.U32 a r = subst types.IsElement (sym r) tt
operator_element o types.U32 types.U32x4 a r = subst types.IsElement (sym r.1) tt
operator_element o types.U32x4 types.U32 a r = subst types.IsElement (sym r.1) tt
operator_element o types.U32x4 types.U32x4 a r = subst types.IsElement (sym r.1) tt
operator_element o _ _ a r = absurd (assumption)

pub element_same : (ys : List ℕ) (a : PlainTy) → types.IsElement a → ty_at ys a ≡ element_ty a
element_same ys types.U32 h = refl
element_same ys types.U32x4 h = refl
element_same ys (types.PairOf a b) h = (let x = element_same ys a h.0 in let y = element_same ys b h.1 in ap (λ z. PairOf z (ty_at ys b)) x ∙ ap (λ z. PairOf (element_ty a) z) y)
element_same ys (types.ArrayOf a n) h = absurd h

element_is : (a : PlainTy) → types.IsElement a → IsElement (element_ty a)
element_is types.U32 h = tt
element_is types.U32x4 h = (refl, refl)
element_is (types.PairOf a b) h = (element_is a h.0, element_is b h.1)
element_is (types.ArrayOf a n) h = absurd h

both_told : {A B : Type 0} (x y : Bool) → (x ≡ true → A) → (y ≡ true → B) → (if x then y else false) ≡ true → A × B
both_told true y f g e = (f refl, g e)
both_told false y f g e = absurd (cc)

pub told : (a : PlainTy) → is_element a ≡ true → types.IsElement a
told types.U32 e = tt
told types.U32x4 e = tt
told (types.PairOf a b) e = both_told (is_element a) (is_element b) (told a) (told b) e
told (types.ArrayOf a n) e = absurd (cc)

typed_at : (ys : List ℕ) (g : List PlainTy) (v : ℕ) (a : PlainTy) → slice_get g v ≡ Some a → ty_at ys a ≡ types_at ys g v
typed_at ys [] v a e = absurd (cc)
typed_at ys (b ∷ g) zero a e = let d : b ≡ a = cc in ap (ty_at ys) (sym d)
typed_at ys (b ∷ g) (suc v) a e = typed_at ys g v a e

module _ (d : Declared) (bases : List ℕ) (shown : (k : ℕ) (p : List Monomial) → ShownAtLeast k d.names p → pos k ≤ℤ value_at bases p) (proper : Every (IsFormed d.names) d.inputs) (src : ℕ → Ty) (sourced : (i : ℕ) (a : PlainTy) → slice_get d.inputs i ≡ Some a → ty_at bases a ≡ src i) where
  abbrev num : List Monomial → ℕ
  num = length_at bases

  abbrev ty : PlainTy → Ty
  ty = ty_at bases

  abbrev Is : List PlainTy → Lowered → Ty → Type 0
  Is g x t = HasType num src (types_at bases g) x t

  has_put : (g : List PlainTy) (p : Place) (a : PlainTy) (x : Lowered) → SuitsPlace p a → Is g x (ty a) → Is g (placed p a x) (ty a)
  has_put g Written a x i h = (element_same bases a i, element_is a i, h)
  has_put g Argument a x i h = h
  has_put g Element a x i h = h

  in_place : (p : Place) (a : PlainTy) → types.IsElement a → SuitsPlace p a
  in_place Written a h = h
  in_place Argument a h = tt
  in_place Element a h = tt

  has_put_element : (g : List PlainTy) (p : Place) (a : PlainTy) (x : Lowered) → Is g x (ty a) → Is g (placed_element p a x) (ty a)
  has_put_element g p a x h = go (is_element a) refl
    where
      go : (b : Bool) → is_element a ≡ b → Is g (if b then placed p a x else x) (ty a)
      go true e = has_put g p a x (in_place p a (told a e)) h
      go false e = h

  has_let : (g : List PlainTy) (c : PlainTy) (v b : Lowered) (t : Ty) → Is g v (ty c) → Is (c ∷ g) b t → Is g (lower_let c v b) t
  has_let g c v b t h k = go (is_element c) refl
    where
      go : (x : Bool) → is_element c ≡ x → Is g (if x then Term.LetElement (element_ty c) v b else Term.LetArray v b) t
      go true e =
          let i = told c e in
          let s = element_same bases c i in
          (element_is c i, subst (λ z. Is g v z) s h, subst (λ z. HasType num src (push z (types_at bases g)) b t) s k)
      go false e = (ty c, h, k)

  -- the element of an array, and the names in a body over it
  suits_body : (b x : PlainTy) (l : List Monomial) (t : Tree) → b ≡ types.ArrayOf x l → LoadsScalars (named 0 (element_of b) [] t) (ty x)
  suits_body b x l t e = subst (λ z. LoadsScalars (named 0 (element_of z) [] t) (ty x)) (sym e) (suits_named bases 0 x [] t)

  outer_is : (b x : PlainTy) (l : List Monomial) → b ≡ types.ArrayOf x l → ty b ≡ ArrayOf (num (outer_of b)) (ty x)
  outer_is b x l e = subst (λ z. ty z ≡ ArrayOf (num (outer_of z)) (ty x)) (sym e) refl

  length_is : (b x : PlainTy) (l : List Monomial) → b ≡ types.ArrayOf x l → num l ≡ num (outer_of b)
  length_is b x l e = subst (λ z. num l ≡ num (outer_of z)) (sym e) refl

  -- a quotient or remainder by a number
  has_divided : (g : List PlainTy) (o : Op) (m : ℕ) (x : Lowered) (a b : PlainTy) → 0 < m → IsNumeric b → a ≡ b → Is g x (ty b) → Is g (divided (is_vector a) o m x) (ty a)
  has_divided g o m x a b some h e k = subst (λ z. Is g (divided (is_vector z) o m x) (ty z)) (sym e) (go b h k)
    where
      go : (c : PlainTy) → IsNumeric c → Is g x (ty c) → Is g (divided (is_vector c) o m x) (ty c)
      go types.U32 h k = (refl, some, k)
      go types.U32x4 h k = (refl, some, k)
      go _ h k = absurd (assumption)

  has_applied : (g : List PlainTy) (o : Operator) (x y : Lowered) (b c a : PlainTy) → OperatorRow o b c a → Is g x (ty b) → Is g y (ty c) → Is g (applied (is_vector a) (is_vector b) (is_vector c) (scalar_op o) x y) (ty a)
  has_applied g o x y types.U32 types.U32 a r h k = subst (λ z. Is g (applied (is_vector z) false false (scalar_op o) x y) (ty z)) (sym r) (refl, no_division o, h, k)
  has_applied g o x y types.U32 types.U32x4 a r h k = subst (λ z. Is g (applied (is_vector z) false true (scalar_op o) x y) (ty z)) (sym r.1) (refl, no_division o, acts o r.0, tt, h, k)
  has_applied g o x y types.U32x4 types.U32 a r h k = subst (λ z. Is g (applied (is_vector z) true false (scalar_op o) x y) (ty z)) (sym r.1) (refl, no_division o, acts o r.0, tt, h, k)
  has_applied g o x y types.U32x4 types.U32x4 a r h k = subst (λ z. Is g (applied (is_vector z) true true (scalar_op o) x y) (ty z)) (sym r.1) (refl, no_division o, acts o r.0, tt, h, k)
  has_applied g o x y _ _ a r h k = absurd (assumption)

  pub has_is : (t : Tree) (p : Place) (g : List PlainTy) (a : Annotation) → Every (IsFormed d.names) g → Annotates d g t a → IsLowerable bases p t a → Is g (lower d.names p t a) (ty (type_in a))
  has_is (tree.Variable v) p g (Leaf a) all h l = has_put g p a _ l (typed_at bases g v a h)
  has_is (tree.Number c) p g (Leaf a) all h l = has_put g p a _ (in_place p a (subst types.IsElement (sym h.1) tt)) (ap ty h.1)
  has_is (tree.Input i) p g (Leaf a) all h l = sourced i a h
  has_is (tree.Unary (unary.Div m) t) p g (One a x) all h l =
      has_put g p a _ (in_place p a (subst types.IsElement (sym h.1.2) (numeric_element (type_in x) h.1.1))) (has_divided g op.Div m (lower d.names Element t x) a (type_in x) h.1.0 h.1.1 h.1.2 (has_is t Element g x all h.0 l.3))
  has_is (tree.Unary (unary.Rem m) t) p g (One a x) all h l =
      has_put g p a _ (in_place p a (subst types.IsElement (sym h.1.2) (numeric_element (type_in x) h.1.1))) (has_divided g op.Rem m (lower d.names Element t x) a (type_in x) h.1.0 h.1.1 h.1.2 (has_is t Element g x all h.0 l.3))
  has_is (tree.Unary unary.First t) p g (One a x) all h l =
      has_put g p a _ l.2 (ty h.1.0, subst (λ z. Is g (lower d.names (operand_place unary.First p) t x) (ty z)) h.1.1 (has_is t (operand_place unary.First p) g x all h.0 l.3))
  has_is (tree.Unary unary.Second t) p g (One a x) all h l =
      has_put g p a _ l.2 (ty h.1.0, subst (λ z. Is g (lower d.names (operand_place unary.Second p) t x) (ty z)) h.1.1 (has_is t (operand_place unary.Second p) g x all h.0 l.3))
  has_is (tree.Unary (unary.Layout y) t) p g (One a x) all h l =
      layout_typed d bases shown src (types_at bases g) p y (type_in x) a (lower d.names p t x) (formed_in d proper g t x all h.0) h.1 (has_is t p g x all h.0 l.3) l.1 l.0
  has_is (tree.Unary (unary.Slide s k) t) p g (One a x) all h l =
      (ty (type_in x), has_is t p g x all h.0 l.3, slide_reshapes d bases shown s k (type_in x) a (formed_in d proper g t x all h.0) h.1, l.1, l.0, l.2)
  has_is (tree.Unary (unary.Pad s k) t) p g (One a x) all h l =
      (ty (type_in x), has_is t p g x all h.0 l.3, pad_reshapes d bases shown s k (type_in x) a (formed_in d proper g t x all h.0) h.1, l.1, l.0, tt)
  has_is (tree.Unary unary.ToLocal t) p g (One a x) all h l =
      (l.2.1, l.2.0, subst (λ z. Is g (lower d.names Written t x) (ty z)) h.1 (has_is t Written g x all h.0 l.3))
  has_is (tree.Unary unary.ToPrivate t) p g (One a x) all h l =
      (l.2.1, l.2.0, subst (λ z. Is g (lower d.names Written t x) (ty z)) h.1 (has_is t Written g x all h.0 l.3))
  has_is (tree.Unary unary.Then t) p g (One a x) all h l = absurd l.2
  has_is (tree.Binary (binary.Operator o) t u) p g (Two a x y) all h l =
      has_put g p a _ (in_place p a (operator_element o (type_in x) (type_in y) a h.2))
      (has_applied g o (lower d.names Element t x) (lower d.names Element u y) (type_in x) (type_in y) a h.2 (has_is t Element g x all h.0 l.1) (has_is u Element g y all h.1 l.2))
  has_is (tree.Binary binary.Pair t u) p g (Two a x y) all h l =
      let i = h.2.0 in
      let j = h.2.1 in
      has_put g p a _ (in_place p a (subst types.IsElement (sym h.2.2) (i, j)))
      (ty (type_in x), ty (type_in y), ap ty h.2.2, at_launch (type_in x) i, at_launch (type_in y) j, has_is t Element g x all h.0 l.1, has_is u Element g y all h.1 l.2)
    where
      at_launch : (c : PlainTy) → types.IsElement c → IsElement (ty c)
      at_launch c k = subst IsElement (sym (element_same bases c k)) (element_is c k)
  has_is (tree.Binary binary.Zip t u) p g (Two a x y) all h l =
      let r = h.2 in
      (num r.2, ty r.0, ty r.1, ap ty r.5, subst (λ z. Is g (lower d.names Argument t x) (ty z)) r.3 (has_is t Argument g x all h.0 l.1), subst (λ z. Is g (lower d.names Argument u y) (ty z)) r.4 (has_is u Argument g y all h.1 l.2))
  has_is (tree.Binary (binary.Reduce r) t u) p g (Two a x y) all h l = absurd l.0
  has_is (tree.Select t u v) p g (Three a x y z) all h l =
      has_put g p a _ (in_place p a (subst types.IsElement (sym h.6) tt)) (
        ap ty h.6,
        subst (λ s. Is g (lower d.names Element t x) (ty s)) h.3 (has_is t Element g x all h.0 l.0),
        subst (λ s. Is g (lower d.names Element u y) (ty s)) h.4 (has_is u Element g y all h.1 l.1),
        subst (λ s. Is g (lower d.names Element v z) (ty s)) h.5 (has_is v Element g z all h.2 l.2),
      )
  has_is (tree.Let v b) p g (Two a x y) all h l =
      let f = formed_in d proper g v x all h.0 in
      let body = has_is b (body_place p a) (type_in x ∷ g) y (f, all) h.1 l.1 in
      has_put_element g p a (lower_let (type_in x) (lower d.names (value_place x) v x) (lower d.names (body_place p a) b y)) (has_let g (type_in x) (lower d.names (value_place x) v x) (lower d.names (body_place p a) b y) (ty a) (has_is v (value_place x) g x all h.0 l.0) (subst (λ z. Is (type_in x ∷ g) (lower d.names (body_place p a) b y) (ty z)) (sym h.2) body))
  has_is (tree.Map k xs b) p g (Two a x y) all h l =
      let e = h.3 in
      let f = subst (IsFormed d.names) e (formed_in d proper g xs x all h.2) in
      let body = has_is b Written (h.0 ∷ g) y (f.1, all) h.4 l.2 in (
        ty h.0,
        ty (type_in y),
        l.0,
        suits_body (type_in x) h.0 h.1 b e,
        subst (λ z. Is g (lower d.names Argument xs x) z) (outer_is (type_in x) h.0 h.1 e) (has_is xs Argument g x all h.2 l.1),
        body,
        ap ty h.5 ∙ ap (λ z. ArrayOf z (ty (type_in y))) (length_is (type_in x) h.0 h.1 e),
      )
  has_is (tree.Fold k xs s b) p g (Three a x y z) all h l =
      let e = h.3 in
      let i = h.5 in
      let same = element_same bases (type_in y) i in
      let f = subst (IsFormed d.names) e (formed_in d proper g xs x all h.2) in
      let start = has_is s Element g y all h.4 l.2 in
      let body = has_is b Element (h.0 ∷ type_in y ∷ g) z (f.1, (formed_in d proper g s y all h.4, all)) h.6 l.3 in
      let typed = subst (λ t. Is (h.0 ∷ type_in y ∷ g) (lower d.names Element b z) (ty t)) h.7 body in
      let one : num (constant 1) ≡ 1 = ap natural (value-constant bases 1) in (
        ty h.0,
        l.0,
        suits_body (type_in x) h.0 h.1 b e,
        element_is (type_in y) i,
        subst (λ t. Is g (lower d.names Argument xs x) t) (outer_is (type_in x) h.0 h.1 e) (has_is xs Argument g x all h.2 l.1),
        subst (λ t. Is g (lower d.names Element s y) t) same start,
        subst (λ t. HasType num src (push (ty h.0) (push t (types_at bases g))) (lower d.names Element b z) t) same typed,
        ap ty h.8 ∙ ap (λ t. ArrayOf t (ty (type_in y))) one ∙ ap (ArrayOf 1) same,
      )
  has_is _ p g _ all h l = absurd h

words_at : (ys : List ℕ) (a : PlainTy) → types.AreNumbers a → IsWords (ty_at ys a)
words_at ys types.U32 h = tt
words_at ys (types.PairOf a b) h = (words_at ys a h.0, words_at ys b h.1)
words_at ys _ h = absurd (assumption)

pub flat_at : (ys : List ℕ) (a : PlainTy) → types.HoldsElements a → IsFlat (ty_at ys a)
flat_at ys types.U32 h = tt
flat_at ys types.U32x4 h = tt
flat_at ys (types.PairOf a b) h = (words_at ys a h.0, words_at ys b h.1)
flat_at ys (types.ArrayOf a n) h = flat_at ys a h

pub output_flat : (ys : List ℕ) (a : PlainTy) → types.IsOutput a → IsFlat (ty_at ys a)
output_flat ys types.U32 h = absurd h
output_flat ys types.U32x4 h = absurd h
output_flat ys (types.PairOf a b) h = absurd h
output_flat ys (types.ArrayOf a n) h = flat_at ys a h
