-- The parts of what a typed term is lowered to.
use Rattle.std.proofs.Common.{◌≡◌, ◌∙◌, ℕ, suc, ◌<◌, ◌≤◌, ◌^◌, Bool, true, false, List, [], ◌∷◌, length, refl, sym, ap, subst, inl, inr, arith}
use Rattle.std.specs.Prelude.{if◌then◌else◌, max}
use Rattle.std.proofs.lemmas.Option.{slice_get_within}
use Rattle.size_arith.specs.Ranges.{AreNames, leasts}
use Rattle.scalar_ops.specs.declared.op.Op.{Op}
use Rattle.scalar_ops.specs.declared.op.Op.TheVariants.{Div, Rem}
use Rattle.scalar_ops.specs.declared.op.Reducer.TheVariants as reducer
use Rattle.lift_tree.specs.declared.term.Operator.{Operator}
use Rattle.lift_tree.specs.declared.term.Operator.TheVariants as operator
use Rattle.lift_tree.specs.declared.term.UnaryForm.TheVariants as unary
use Rattle.lift_tree.specs.declared.term.BinaryForm.TheVariants as binary
use Rattle.lift_tree.specs.Lists.{Every}
use Rattle.lift_tree.specs.Limits.{NodesFit}
use Rattle.lift_tree.specs.Tree as tree
use Rattle.lift_tree.specs.Tree.{Tree}
use Rattle.lift_tree.specs.Types as types
use Rattle.lift_tree.specs.Types.{PlainTy}
use Rattle.lift_tree.specs.Meaning.{scalar_op}
use Rattle.lift_tree.specs.Typing.{Declared, is_lane_operator, OperatorRow}
use Rattle.kernel_tree.specs.Grammar.{is_operator}
use Rattle.lift_tree.specs.Annotations.{Annotates, Annotation, Leaf, One, Three, Two, type_in}
use Rattle.lift_tree.proofs.WithinLimits.{IsWithin, element_within, within_in}
use Rattle.lift_ir.specs.Types as ir
use Rattle.lift_ir.specs.Types.{IsShort, size, Ty}
use Rattle.lift_ir.specs.Terms.{Copy, LetArray, LetElement, LocalMemory, PrivateMemory, Space}
use Rattle.lift_ir.specs.AtLaunch.{shape_of, ty_at}
use Rattle.lift_ir.specs.Lowering.{applied, Argument, body_place, divided, is_vector, Element, element_ty, is_element, lower, lower_let, Lowered, Place, value_place, Written}
use Rattle.lift_ir.specs.Lowerable.{IsElementTerm, IsLowerable, IsStaged}
use Rattle.lift_ir.proofs.Lets.{argument_let, written_let}
use Rattle.printed_form.specs.Sound.{AllLengths, dimensions, IsSound}
use Rattle.kernel_premises.proofs.Lets.{element_let, stored_let}
use Rattle.kernel_premises.specs.Sound.{IsHeld}
use Rattle.lowered_tree.specs.Words.{FormsHaveWords}
use Rattle.kernel_premises.proofs.Leasts.{has_a_cell}
use Rattle.kernel_premises.proofs.SoundLayouts.{sound_layout}
use Rattle.kernel_premises.proofs.Types.{outer_held, type_held}

-- ---- elements
element_is : (a : PlainTy) → ir.IsElement (element_ty a)
element_is types.U32 = tt
element_is types.U32x4 = (refl, refl)
element_is (types.PairOf a b) = (element_is a, element_is b)
element_is (types.ArrayOf a n) = tt

-- ---- operators that act lane by lane are the grammar's
lane_operates : (o : Operator) → is_lane_operator o ≡ true → is_operator (scalar_op o) ≡ true
lane_operates (operator.Regrouping reducer.Add) e = refl
lane_operates (operator.Regrouping reducer.Mul) e = refl
lane_operates (operator.Regrouping reducer.Min) e = refl
lane_operates (operator.Regrouping reducer.Max) e = refl
lane_operates (operator.Regrouping reducer.And) e = refl
lane_operates (operator.Regrouping reducer.Or) e = refl
lane_operates (operator.Regrouping reducer.Xor) e = refl
lane_operates operator.Sub e = refl
lane_operates operator.Shl e = refl
lane_operates operator.Shr e = refl
lane_operates operator.Lt e = absurd (cc)
lane_operates operator.Eq e = absurd (cc)

vector_operates : (o : Operator) (b c a : PlainTy) → OperatorRow o b c a → is_vector a ≡ true → is_operator (scalar_op o) ≡ true
vector_operates o types.U32 types.U32 a r v = let e : false ≡ true = ap is_vector (sym r) ∙ v in absurd (cc)
vector_operates o types.U32 types.U32x4 a r v = lane_operates o r.0
vector_operates o types.U32x4 types.U32 a r v = lane_operates o r.0
vector_operates o types.U32x4 types.U32x4 a r v = lane_operates o r.0
vector_operates o _ _ a r v = absurd r

-- ---- copies
short_words : (t : Ty) → IsShort t → AllLengths (λ n. n < 2 ^ 32) t
short_words ir.Scalar h = tt
short_words (ir.PairOf a b) h = (short_words a h.0, short_words b h.1)
short_words (ir.ArrayOf n t) h = let s = h.0 in (omega (arith, s), short_words t h.1)

dimensions_at : (ys : List ℕ) (a : PlainTy) → dimensions (ty_at ys a) ≡ dimensions (shape_of a)
dimensions_at ys types.U32 = refl
dimensions_at ys types.U32x4 = refl
dimensions_at ys (types.PairOf a b) = ap (λ m. max m (dimensions (ty_at ys b))) (dimensions_at ys a) ∙ ap (λ m. max (dimensions (shape_of a)) m) (dimensions_at ys b)
dimensions_at ys (types.ArrayOf a n) = ap suc (dimensions_at ys a)

-- ---- where a let is of an element, and where it is one
value_element : (n : Annotation) → is_element (type_in n) ≡ true → value_place n ≡ Element
value_element n e = ap (λ (b : Bool). if b then Element else Argument) e

value_argument : (n : Annotation) → is_element (type_in n) ≡ false → value_place n ≡ Argument
value_argument n e = ap (λ (b : Bool). if b then Element else Argument) e

body_written : (a : PlainTy) → is_element a ≡ false → body_place Written a ≡ Written
body_written a e = ap (λ (b : Bool). if b then Element else Written) e

module _ (d : Declared) (are : AreNames d.names) (inputs : Every (IsWithin d.names) d.inputs) where
  abbrev Declares : ℕ → Type 0
  Declares s = s < length d.inputs

  abbrev Sound : Lowered → Type 0
  Sound t = IsSound IsHeld Declares t

  -- ---- operators
  divided_sound : (vector : Bool) (o : Op) (m : ℕ) (t : Lowered) → is_operator o ≡ true → m < 2 ^ 32 → Sound t → Sound (divided vector o m t)
  divided_sound false o m t e lt h = (e, lt, h)
  divided_sound true o m t e lt h = (e, lt, h)

  applied_by : (vector left right : Bool) (o : Op) (t u : Lowered) → (vector ≡ true → is_operator o ≡ true) → Sound t → Sound u → Sound (applied vector left right o t u)
  applied_by false left right o t u e h k = (h, k)
  applied_by true left right o t u e h k = (e refl, h, k)

  applied_sound : (o : Operator) (b c a : PlainTy) → OperatorRow o b c a → (t u : Lowered) → Sound t → Sound u → Sound (applied (is_vector a) (is_vector b) (is_vector c) (scalar_op o) t u)
  applied_sound o b c a r t u h k = applied_by (is_vector a) (is_vector b) (is_vector c) (scalar_op o) t u (vector_operates o b c a r) h k

  -- ---- lets
  let_element : (c : PlainTy) (v b : Lowered) → is_element c ≡ true → Sound v → Sound b → Sound (lower_let c v b)
  let_element c v b e h k = subst (λ (x : Bool). Sound (if x then LetElement (element_ty c) v b else LetArray v b)) (sym e) (h, k)

  same_either : (b : Bool) (t : Lowered) → Sound t → Sound (if b then t else t)
  same_either true t h = h
  same_either false t h = h

  -- what is lowered at a place that is this one
  moved : (p q : Place) (t : Tree) (n : Annotation) → p ≡ q → Sound (lower d.names q t n) → Sound (lower d.names p t n)
  moved p q t n e h = subst (λ r. Sound (lower d.names r t n)) (sym e) h

  lowerable_at : (p q : Place) (t : Tree) (n : Annotation) → p ≡ q → IsLowerable (leasts d.names) p t n → IsLowerable (leasts d.names) q t n
  lowerable_at p q t n e h = subst (λ r. IsLowerable (leasts d.names) r t n) e h

  -- ---- element terms
  element : (g : List PlainTy) (t : Tree) (n : Annotation) → Annotates d g t n → FormsHaveWords t → IsElementTerm t n → Sound (lower d.names Element t n)
  element g (tree.Variable v) (Leaf a) y w o = tt
  element g (tree.Number c) (Leaf a) y w o = y.0
  element g (tree.Unary (unary.Div k) t) (One a n) y w o = divided_sound (is_vector a) Div k (lower d.names Element t n) refl w.0 (element g t n y.0 w.1 o)
  element g (tree.Unary (unary.Rem k) t) (One a n) y w o = divided_sound (is_vector a) Rem k (lower d.names Element t n) refl w.0 (element g t n y.0 w.1 o)
  element g (tree.Unary unary.First t) (One a n) y w o = element g t n y.0 w.1 o
  element g (tree.Unary unary.Second t) (One a n) y w o = element g t n y.0 w.1 o
  element g (tree.Binary (binary.Operator f) t u) (Two a n m) y w o =
      applied_sound f (type_in n) (type_in m) a y.2 (lower d.names Element t n) (lower d.names Element u m) (element g t n y.0 w.0 o.0) (element g u m y.1 w.1 o.1)
  element g (tree.Binary binary.Pair t u) (Two a n m) y w o = (element g t n y.0 w.0 o.0, element g u m y.1 w.1 o.1)
  element g (tree.Select t u x) (Three a n m l) y w o = (element g t n y.0 w.0 o.0, element g u m y.1 w.1 o.1, element g x l y.2 w.2 o.2)
  element g (tree.Let v b) (Two a n m) y w o =
      let x = moved (value_place n) Element v n (value_element n o.0) (element g v n y.0 w.0 o.1) in
      let z = element (type_in n ∷ g) b m y.1 w.1 o.2 in
      same_either (is_element a) (lower_let (type_in n) (lower d.names (value_place n) v n) (lower d.names Element b m)) (let_element (type_in n) (lower d.names (value_place n) v n) (lower d.names Element b m) o.0 x z)
  element g _ _ y w o = absurd o

  -- ---- copies
  copy : (space : Space) (a : PlainTy) (t : Lowered) → IsWithin d.names a → size (ty_at [] a) < 2 ^ 31 → IsShort (ty_at [] a) → ty_at (leasts d.names) a ≡ ty_at [] a → Sound t → Sound (Copy space (ty_at [] a) t)
  copy space a t good small short same h =
      let dims = dimensions_at [] a in
      let few = (type_held a good.lengths good.few).few in
      let cell = subst (λ z. 1 ≤ size z) same (has_a_cell d.names a are good.formed) in
      (short_words (ty_at [] a) short, omega (arith, dims, few), h, omega (arith, cell), omega (arith, small))

  -- ---- terms in writing position, and arguments
  mutual
    pub sound_written : (g : List PlainTy) (t : Tree) (n : Annotation) → Every (IsWithin d.names) g → Annotates d g t n → NodesFit d.names t n → FormsHaveWords t → IsLowerable (leasts d.names) Written t n → IsStaged Written t n → Sound (lower d.names Written t n)
    sound_written g (tree.Variable v) (Leaf a) all y f w l o = (element_is a, tt)
    sound_written g (tree.Number c) (Leaf a) all y f w l o = (element_is a, y.0)
    sound_written g (tree.Unary (unary.Div k) t) (One a n) all y f w l o = (element_is a, divided_sound (is_vector a) Div k (lower d.names Element t n) refl w.0 (element g t n y.0 w.1 o))
    sound_written g (tree.Unary (unary.Rem k) t) (One a n) all y f w l o = (element_is a, divided_sound (is_vector a) Rem k (lower d.names Element t n) refl w.0 (element g t n y.0 w.1 o))
    sound_written g (tree.Unary unary.First t) (One a n) all y f w l o = (element_is a, element g t n y.0 w.1 o)
    sound_written g (tree.Unary unary.Second t) (One a n) all y f w l o = (element_is a, element g t n y.0 w.1 o)
    sound_written g (tree.Unary (unary.Layout y) t) (One a n) all e f w l o =
        sound_layout d Declares Written y (type_in n) a _ e.1 (within_in d inputs g t n all e.0 f.0) (within_in d inputs g (tree.Unary (unary.Layout y) t) (One a n) all e f) (sound_written g t n all e.0 f.0 w.1 l.3 o)
    sound_written g (tree.Unary (unary.Slide s k) t) (One a n) all y f w l o = (w.0, sound_written g t n all y.0 f.0 w.1 l.3 o)
    sound_written g (tree.Unary (unary.Pad s k) t) (One a n) all y f w l o =
        ((w.0, outer_held (type_in n) (within_in d inputs g t n all y.0 f.0).lengths), sound_written g t n all y.0 f.0 w.1 l.3 o)
    sound_written g (tree.Binary (binary.Operator p) t u) (Two a n m) all y f w l o =
        (element_is a, applied_sound p (type_in n) (type_in m) a y.2 (lower d.names Element t n) (lower d.names Element u m) (element g t n y.0 w.0 o.0) (element g u m y.1 w.1 o.1))
    sound_written g (tree.Binary binary.Pair t u) (Two a n m) all y f w l o = (element_is a, (element g t n y.0 w.0 o.0, element g u m y.1 w.1 o.1))
    sound_written g (tree.Select t u x) (Three a n m k) all y f w l o = (element_is a, (element g t n y.0 w.0 o.0, element g u m y.1 w.1 o.1, element g x k y.2 w.2 o.2))
    sound_written g (tree.Let v b) (Two a n m) all y f w l (inl o) =
        let x = moved (value_place n) Element v n (value_element n o.1) (element g v n y.0 w.0 o.2) in
        subst Sound (sym (stored_let d.names v b a n m o.0)) (element_is a, let_element (type_in n) (lower d.names (value_place n) v n) (lower d.names Element b m) o.1 x (element (type_in n ∷ g) b m y.1 w.1 o.3))
    sound_written g (tree.Let v b) (Two a n m) all y f w l (inr (inl o)) =
        let good = within_in d inputs g v n all y.0 f.0 in
        let under = lowerable_at (body_place Written a) Written b m (body_written a o.0) l.1 in
        subst Sound (sym (element_let d.names v b a n m o.0 o.1)) (element g v n y.0 w.0 o.2, sound_written (type_in n ∷ g) b m (good, all) y.1 f.1 w.1 under o.3)
    sound_written g (tree.Let v b) (Two a n m) all y f w l (inr (inr o)) =
        let value = lowerable_at (value_place n) Argument v n (value_argument n o.1) l.0 in
        let good = within_in d inputs g v n all y.0 f.0 in
        let under = lowerable_at (body_place Written a) Written b m (body_written a o.0) l.1 in
        subst Sound (sym (written_let d.names v b a n m o.0 o.1)) (sound_argument g v n all y.0 f.0 w.0 value o.2, sound_written (type_in n ∷ g) b m (good, all) y.1 f.1 w.1 under o.3)
    sound_written g (tree.Map j xs b) (Two a n m) all y f w l o =
        let good = within_in d inputs g xs n all y.2 f.0 in (
          outer_held (type_in n) good.lengths,
          sound_argument g xs n all y.2 f.0 w.0 l.1 o.0,
          sound_written (y.0 ∷ g) b m (element_within d.names (type_in n) y.0 y.1 y.3 good, all) y.4 f.1 w.1 l.2 o.1,
        )
    sound_written g (tree.Fold j xs s b) (Three a n m k) all y f w l o =
        let good = within_in d inputs g xs n all y.2 f.0 in (
          outer_held (type_in n) good.lengths,
          element_is (type_in m),
          sound_argument g xs n all y.2 f.0 w.0 l.1 o.0,
          element g s m y.4 w.1 o.1,
          element (y.0 ∷ type_in m ∷ g) b k y.6 w.2 o.2,
        )
    sound_written g _ _ all y f w l o = absurd o

    pub sound_argument : (g : List PlainTy) (t : Tree) (n : Annotation) → Every (IsWithin d.names) g → Annotates d g t n → NodesFit d.names t n → FormsHaveWords t → IsLowerable (leasts d.names) Argument t n → IsStaged Argument t n → Sound (lower d.names Argument t n)
    sound_argument g (tree.Variable v) (Leaf a) all y f w l o = tt
    sound_argument g (tree.Input i) (Leaf a) all y f w l o = slice_get_within d.inputs i a y
    sound_argument g (tree.Unary unary.First t) (One a n) all y f w l o = sound_argument g t n all y.0 f.0 w.1 l.3 o
    sound_argument g (tree.Unary unary.Second t) (One a n) all y f w l o = sound_argument g t n all y.0 f.0 w.1 l.3 o
    sound_argument g (tree.Unary (unary.Layout y) t) (One a n) all e f w l o =
        sound_layout d Declares Argument y (type_in n) a _ e.1 (within_in d inputs g t n all e.0 f.0) (within_in d inputs g (tree.Unary (unary.Layout y) t) (One a n) all e f) (sound_argument g t n all e.0 f.0 w.1 l.3 o)
    sound_argument g (tree.Unary (unary.Slide s k) t) (One a n) all y f w l o = (w.0, sound_argument g t n all y.0 f.0 w.1 l.3 o)
    sound_argument g (tree.Unary (unary.Pad s k) t) (One a n) all y f w l o =
        ((w.0, outer_held (type_in n) (within_in d inputs g t n all y.0 f.0).lengths), sound_argument g t n all y.0 f.0 w.1 l.3 o)
    sound_argument g (tree.Unary unary.ToLocal t) (One a n) all y f w l o =
        copy LocalMemory a (lower d.names Written t n) (within_in d inputs g (tree.Unary unary.ToLocal t) (One a n) all y f) o.1 o.2 l.2.1 (sound_written g t n all y.0 f.0 w.1 l.3 o.3)
    sound_argument g (tree.Unary unary.ToPrivate t) (One a n) all y f w l o =
        copy PrivateMemory a (lower d.names Written t n) (within_in d inputs g (tree.Unary unary.ToPrivate t) (One a n) all y f) o.1 o.2 l.2.1 (sound_written g t n all y.0 f.0 w.1 l.3 o.3)
    sound_argument g (tree.Binary binary.Zip t u) (Two a n m) all y f w l o =
        (sound_argument g t n all y.0 f.0 w.0 l.1 o.0, sound_argument g u m all y.1 f.1 w.1 l.2 o.1)
    sound_argument g (tree.Let v b) (Two a n m) all y f w l o =
        let value = lowerable_at (value_place n) Argument v n (value_argument n o.0) l.0 in
        let good = within_in d inputs g v n all y.0 f.0 in
        subst Sound (sym (argument_let d.names v b a n m o.0)) (sound_argument g v n all y.0 f.0 w.0 value o.1, sound_argument (type_in n ∷ g) b m (good, all) y.1 f.1 w.1 l.1 o.2)
    sound_argument g _ _ all y f w l o = absurd o
