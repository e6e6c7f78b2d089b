-- Terms without a broken rule are staged: elements, arguments and what is written each have the
-- forms of their place.
use Rattle.std.proofs.Common.{◌≡◌, ◌<◌, ◌^◌, ℕ, zero, suc, Bool, true, false, List, [], ◌∷◌, Some, refl, sym, ap, ◌∙◌, subst, inl, inr}
use Rattle.std.proofs.lemmas.Bool.{or_left, or_right, not-false, not_from_false, or_parts}
use Rattle.std.proofs.Math.Nat.{pow-zero}
use Rattle.std.specs.Prelude.{not, ◌&&◌, ◌||◌, slice_get, pos, ◌*ℤ◌, ◌+ℤ◌}
use Rattle.size_arith.specs.declared.poly.Monomial.{Monomial}
use Rattle.size_arith.specs.Polynomial.{product, value_at}
use Rattle.lift_tree.specs.declared.term.UnaryForm.TheVariants as unary
use Rattle.lift_tree.specs.declared.term.BinaryForm.TheVariants as binary
use Rattle.lift_tree.specs.declared.term.MapKind.{MapKind}
use Rattle.lift_tree.specs.declared.term.FoldKind.{FoldKind}
use Rattle.lift_tree.specs.declared.term.FoldKind.TheVariants as fold_kind
use Rattle.lift_tree.specs.Tree as tree
use Rattle.lift_tree.specs.Tree.{Tree}
use Rattle.lift_tree.specs.Types as types
use Rattle.lift_tree.specs.Types.{PlainTy, is_array, IsInput, is_element}
use Rattle.lift_tree.specs.Lists.{Every}
use Rattle.lift_tree.specs.Typing.{Declared}
use Rattle.lift_tree.specs.Annotations.{Annotation, Leaf, One, Two, Three, type_in, Annotates}
use Rattle.lift_tree.proofs.Layouts.{layout_result}
use Rattle.lift_ir.specs.Types.{PairOf, ArrayOf, IsShort, size}
use Rattle.lift_ir.specs.AtLaunch.{natural, length_at, ty_at}
use Rattle.lift_ir.specs.Lowering.{Written, Argument}
use Rattle.lift_ir.specs.Lowerable.{IsElementTerm, HoldsNoScalar, IsStaged}
use Rattle.lift_ir.proofs.Elements.{left_part, right_part, told_element, told_ir}
use Rattle.lowered_tree.specs.declared.rule.NestRule.TheVariants.{N1, N6, N7, N8, N10, N11, N13}
use Rattle.lowered_tree.specs.Around.{Around, laid_out, passed, under_form}
use Rattle.lowered_tree.specs.Elements.{names_a_size, is_over_sizes, hangs_on_sizes}
use Rattle.lowered_tree.specs.Kinds.{is_plain}
use Rattle.lowered_tree.specs.Copies.{CopiesArrays}
use Rattle.nest_premises.specs.Unbroken.{IsUnbrokenAt, AllUnbroken}
use Rattle.nest_premises.proofs.Fits.{Fits}
use Rattle.nest_premises.proofs.Rules.{spared, true_is_not_false, no_array, holds_none, clash_array, clash_element, moved, under_layout, body_written, below, is_through, through, numeric_is, operator_is}

-- a program's inputs are arrays
input_is_array : (inputs : List PlainTy) (i : ℕ) (a : PlainTy) → Every IsInput inputs → slice_get inputs i ≡ Some a → is_array a ≡ true
input_is_array [] i a h e = absurd (cc)
input_is_array (types.ArrayOf b n ∷ inputs) zero a h e = let c : types.ArrayOf b n ≡ a = cc in subst (λ z. is_array z ≡ true) c refl
input_is_array (types.U32 ∷ inputs) zero a h e = absurd h.0
input_is_array (types.U32x4 ∷ inputs) zero a h e = absurd h.0
input_is_array (types.PairOf b c ∷ inputs) zero a h e = absurd h.0
input_is_array (b ∷ inputs) (suc i) a h e = input_is_array inputs i a h.1 e

module _ (d : Declared) (inputs : Every IsInput d.inputs) where
  -- N7: in an element term a let is of an element
  let_of_element : (s : Around) (v b : Tree) (a : PlainTy) (n m : Annotation) → IsUnbrokenAt s (tree.Let v b) (Two a n m) → (s.in_element || is_element a) ≡ true → is_element (type_in n) ≡ true
  let_of_element s v b a n m h c = not-false (is_element (type_in n)) (spared (s.in_element || is_element a) (not (is_element (type_in n))) (or_parts (s.in_argument && is_element (type_in n)) ((s.in_element || is_element a) && not (is_element (type_in n))) (h N7)).1 c)

  -- N7: in an argument a let is of anything but an element
  let_of_view : (s : Around) (v b : Tree) (a : PlainTy) (n m : Annotation) → IsUnbrokenAt s (tree.Let v b) (Two a n m) → s.in_argument ≡ true → is_element (type_in n) ≡ false
  let_of_view s v b a n m h c = spared s.in_argument (is_element (type_in n)) (or_parts (s.in_argument && is_element (type_in n)) ((s.in_element || is_element a) && not (is_element (type_in n))) (h N7)).0 c

  -- an element term
  pub counted : (s : Around) (g : List PlainTy) (t : Tree) (n : Annotation) → Annotates d g t n → AllUnbroken s t n → CopiesArrays t n → (s.in_element || is_element (type_in n)) ≡ true → is_array (type_in n) ≡ false → IsElementTerm t n
  counted s g (tree.Variable v) (Leaf a) y h k c w = tt
  counted s g (tree.Number v) (Leaf a) y h k c w = tt
  counted s g (tree.Input i) (Leaf a) y h k c w = true_is_not_false (is_array a) (input_is_array d.inputs i a inputs y) w
  counted s g (tree.Unary (unary.Div j) t) (One a n) y h k c w = counted (under_form s (unary.Div j) a) g t n y.0 h.1 k.1 (or_left (s.in_element || is_element a) (is_element (type_in n)) c) (no_array (type_in n) (numeric_is (type_in n) y.1.1))
  counted s g (tree.Unary (unary.Rem j) t) (One a n) y h k c w = counted (under_form s (unary.Rem j) a) g t n y.0 h.1 k.1 (or_left (s.in_element || is_element a) (is_element (type_in n)) c) (no_array (type_in n) (numeric_is (type_in n) y.1.1))
  counted s g (tree.Unary unary.First t) (One a n) y h k c w = counted (under_form s unary.First a) g t n y.0 h.1 k.1 (or_left (s.in_element || is_element a) (is_element (type_in n)) c) (moved is_array false (type_in n) (types.PairOf a y.1.0) y.1.1 refl)
  counted s g (tree.Unary unary.Second t) (One a n) y h k c w = counted (under_form s unary.Second a) g t n y.0 h.1 k.1 (or_left (s.in_element || is_element a) (is_element (type_in n)) c) (moved is_array false (type_in n) (types.PairOf y.1.0 a) y.1.1 refl)
  counted s g (tree.Unary (unary.Layout l) t) (One a n) y h k c w = clash_array a _ (layout_result d.names l _ a y.1).is refl w
  counted s g (tree.Unary (unary.Slide j l) t) (One a n) y h k c w = clash_array a (types.ArrayOf _ _) y.1.6 refl w
  counted s g (tree.Unary (unary.Pad j l) t) (One a n) y h k c w = clash_array a (types.ArrayOf _ _) y.1.3 refl w
  counted s g (tree.Unary unary.ToLocal t) (One a n) y h k c w = true_is_not_false (is_array a) k.0 w
  counted s g (tree.Unary unary.ToPrivate t) (One a n) y h k c w = true_is_not_false (is_array a) k.0 w
  counted s g (tree.Unary unary.Then t) (One a n) y h k c w = absurd (true_is_not_false true refl (h.0 N13))
  counted s g (tree.Binary (binary.Operator o) t u) (Two a n m) y h k c w = (
    counted _ g t n y.0 h.1 k.0 (or_left (s.in_element || is_element a) (is_element (type_in n)) c) (no_array (type_in n) (operator_is o (type_in n) (type_in m) a y.2).0),
    counted _ g u m y.1 h.2 k.1 (or_left (s.in_element || is_element a) (is_element (type_in m)) c) (no_array (type_in m) (operator_is o (type_in n) (type_in m) a y.2).1),
  )
  counted s g (tree.Binary binary.Pair t u) (Two a n m) y h k c w = (
    counted _ g t n y.0 h.1 k.0 (or_left (s.in_element || is_element a) (is_element (type_in n)) c) (no_array (type_in n) (told_element (type_in n) y.2.0)),
    counted _ g u m y.1 h.2 k.1 (or_left (s.in_element || is_element a) (is_element (type_in m)) c) (no_array (type_in m) (told_element (type_in m) y.2.1)),
  )
  counted s g (tree.Binary binary.Zip t u) (Two a n m) y h k c w = clash_array a (types.ArrayOf _ _) y.2.5 refl w
  counted s g (tree.Binary (binary.Reduce r) t u) (Two a n m) y h k c w = clash_array a (types.ArrayOf _ _) y.2.3 refl w
  counted s g (tree.Select t u x) (Three a n m l) y h k c w = (
    counted _ g t n y.0 h.1 k.0 (or_left (s.in_element || is_element a) (is_element (type_in n)) c) (moved is_array false (type_in n) types.U32 y.3 refl),
    counted _ g u m y.1 h.2 k.1 (or_left (s.in_element || is_element a) (is_element (type_in m)) c) (moved is_array false (type_in m) types.U32 y.4 refl),
    counted _ g x l y.2 h.3 k.2 (or_left (s.in_element || is_element a) (is_element (type_in l)) c) (moved is_array false (type_in l) types.U32 y.5 refl),
  )
  counted s g (tree.Let v b) (Two a n m) y h k c w =
      let e = let_of_element s v b a n m h.0 c in (
        told_ir true (type_in n) e,
        counted _ g v n y.0 h.1 k.0 (or_left (s.in_element || is_element a) (is_element (type_in n)) c) (no_array (type_in n) e),
        counted _ (type_in n ∷ g) b m y.1 h.2 k.1 (or_left (s.in_element || is_element a) (is_element (type_in m)) c) (moved is_array false (type_in m) a (sym y.2) w),
      )
  counted s g (tree.Map j xs b) (Two a n m) y h k c w = clash_array a (types.ArrayOf _ _) y.5 refl w
  counted s g (tree.Fold j xs z b) (Three a n m l) y h k c w = clash_array a (types.ArrayOf _ _) y.8 refl w
  counted s g _ _ y h k c w = absurd y

-- an element term in writing position
counted_stands : (t : Tree) (n : Annotation) → IsElementTerm t n → is_element (type_in n) ≡ true → IsStaged Written t n
counted_stands (tree.Variable v) (Leaf a) o e = tt
counted_stands (tree.Number v) (Leaf a) o e = tt
counted_stands (tree.Unary (unary.Div j) t) (One a n) o e = o
counted_stands (tree.Unary (unary.Rem j) t) (One a n) o e = o
counted_stands (tree.Unary unary.First t) (One a n) o e = o
counted_stands (tree.Unary unary.Second t) (One a n) o e = o
counted_stands (tree.Binary (binary.Operator q) t u) (Two a n m) o e = o
counted_stands (tree.Binary binary.Pair t u) (Two a n m) o e = o
counted_stands (tree.Select t u x) (Three a n m l) o e = o
counted_stands (tree.Let v b) (Two a n m) o e = inl (told_ir true a e, o.0, o.1, o.2)
counted_stands _ _ o e = absurd o

-- N10 and N11 of a node in writing position that is no element term
pub refused : {A : Type 0} (x y : Bool) → (x && not y && true) ≡ false → x ≡ true → y ≡ false → A
refused true true h e k = absurd (cc)
refused true false h e k = absurd (cc)
refused false y h e k = absurd (cc)

-- literal lengths are the same at all launches
product_of_none : (ys ps : List ℕ) → names_a_size ps ≡ false → product ys ps ≡ 1
product_of_none [] ps e = refl
product_of_none (y ∷ ys) [] e = refl
product_of_none (y ∷ ys) (zero ∷ ps) e = rw (pow-zero y, product_of_none ys ps e) refl
product_of_none (y ∷ ys) (suc p ∷ ps) e = absurd (cc)

value_of_none : (ys : List ℕ) (n : List Monomial) → is_over_sizes n ≡ false → value_at ys n ≡ value_at [] n
value_of_none ys [] e = refl
value_of_none ys (m ∷ n) e =
    ap (λ z. m.coefficient *ℤ pos z +ℤ value_at ys n) (product_of_none ys m.powers (or_parts (names_a_size m.powers) (is_over_sizes n) e).0)
    ∙ ap (λ z. m.coefficient *ℤ pos 1 +ℤ z) (value_of_none ys n (or_parts (names_a_size m.powers) (is_over_sizes n) e).1)

pub same_literal : (ys : List ℕ) (a : PlainTy) → hangs_on_sizes a ≡ false → ty_at ys a ≡ ty_at [] a
same_literal ys types.U32 e = refl
same_literal ys types.U32x4 e = refl
same_literal ys (types.PairOf a b) e =
    ap (λ z. PairOf z (ty_at ys b)) (same_literal ys a (or_parts (hangs_on_sizes a) (hangs_on_sizes b) e).0) ∙ ap (PairOf (ty_at [] a)) (same_literal ys b (or_parts (hangs_on_sizes a) (hangs_on_sizes b) e).1)
same_literal ys (types.ArrayOf a n) e =
    ap (λ z. ArrayOf (natural z) (ty_at ys a)) (value_of_none ys n (or_parts (is_over_sizes n) (hangs_on_sizes a) e).0) ∙ ap (ArrayOf (length_at [] n)) (same_literal ys a (or_parts (is_over_sizes n) (hangs_on_sizes a) e).1)

-- still in writing position
pub passes : (x y : Bool) → x ≡ true → y ≡ false → (x && not y) ≡ true
passes true true e h = absurd (cc)
passes true false e h = refl
passes false y e h = absurd (cc)

let_stands : (v b : Tree) (a : PlainTy) (n m : Annotation) (x : Bool) → is_element (type_in n) ≡ x → is_element a ≡ false → (x ≡ true → IsElementTerm v n) → (x ≡ false → IsStaged Argument v n) → IsStaged Written b m → IsStaged Written (tree.Let v b) (Two a n m)
let_stands v b a n m true e i c o r = inr (inl (told_ir false a i, told_ir true (type_in n) e, c refl, r))
let_stands v b a n m false e i c o r = inr (inr (told_ir false a i, told_ir false (type_in n) e, o refl, r))

-- N1, N7: a map, or a fold, isn't in an argument
pub no_map : {A : Type 0} (s : Around) (j : MapKind) (xs b : Tree) (a : PlainTy) (n m : Annotation) → IsUnbrokenAt s (tree.Map j xs b) (Two a n m) → s.in_argument ≡ true → A
no_map s j xs b a n m h w = true_is_not_false (not (is_plain j)) (not_from_false (is_plain j) (h N1)) (or_parts (not (is_plain j)) false (or_parts (not (is_plain j) || false) false (spared s.in_argument _ (or_parts _ _ (h N7)).0 w)).0).0

pub no_fold : {A : Type 0} (s : Around) (j : FoldKind) (xs x b : Tree) (a : PlainTy) (n m l : Annotation) → IsUnbrokenAt s (tree.Fold j xs x b) (Three a n m l) → s.in_argument ≡ true → A
no_fold s fold_kind.Plain xs x b a n m l h w = true_is_not_false true refl (h N1)
no_fold s fold_kind.Sequential xs x b a n m l h w = true_is_not_false true refl (spared s.in_argument _ (or_parts _ _ (h N7)).0 w)

-- a copy of literal lengths
copied : (ys : List ℕ) (t : Tree) (a : PlainTy) (n : Annotation) → is_array a ≡ true → IsShort (ty_at ys a) → size (ty_at ys a) < 2 ^ 31 → ty_at ys a ≡ ty_at [] a → IsStaged Written t n → HoldsNoScalar a × (size (ty_at [] a) < 2 ^ 31) × IsShort (ty_at [] a) × IsStaged Written t n
copied ys t a n k f g e o = (holds_none a k, subst (λ z. size z < 2 ^ 31) e g, subst IsShort e f, o)

module _ (d : Declared) (inputs : Every IsInput d.inputs) (ys : List ℕ) where
  mutual
    -- N1, N6, N7, N8: an argument
    pub argued : (s : Around) (g : List PlainTy) (t : Tree) (n : Annotation) → Annotates d g t n → AllUnbroken s t n → CopiesArrays t n → Fits ys t n → s.in_argument ≡ true → is_element (type_in n) ≡ false → IsStaged Argument t n
    argued s g (tree.Variable v) (Leaf a) y h k f w e = tt
    argued s g (tree.Number v) (Leaf a) y h k f w e = clash_element a types.U32 y.1 refl e
    argued s g (tree.Input i) (Leaf a) y h k f w e = holds_none a (input_is_array d.inputs i a inputs y)
    argued s g (tree.Unary (unary.Div j) t) (One a n) y h k f w e = clash_element a (type_in n) y.1.2 (numeric_is (type_in n) y.1.1) e
    argued s g (tree.Unary (unary.Rem j) t) (One a n) y h k f w e = clash_element a (type_in n) y.1.2 (numeric_is (type_in n) y.1.1) e
    argued s g (tree.Unary unary.First t) (One a n) y h k f w e = argued _ g t n y.0 h.1 k.1 f.2 w (moved is_element false (type_in n) (types.PairOf a y.1.0) y.1.1 (left_part a y.1.0 e))
    argued s g (tree.Unary unary.Second t) (One a n) y h k f w e = argued _ g t n y.0 h.1 k.1 f.2 w (moved is_element false (type_in n) (types.PairOf y.1.0 a) y.1.1 (right_part y.1.0 a e))
    argued s g (tree.Unary (unary.Layout l) t) (One a n) y h k f w e = argued (laid_out s l a) g t n y.0 h.1 k.1 f.2 (below (λ z. z.in_argument ≡ true) s l a w w) (under_layout d.names l (type_in n) a y.1)
    argued s g (tree.Unary (unary.Slide j l) t) (One a n) y h k f w e = argued _ g t n y.0 h.1 k.1 f.2 w (moved is_element false (type_in n) (types.ArrayOf _ _) y.1.2 refl)
    argued s g (tree.Unary (unary.Pad j l) t) (One a n) y h k f w e = argued _ g t n y.0 h.1 k.1 f.2 w (moved is_element false (type_in n) (types.ArrayOf _ _) y.1.2 refl)
    argued s g (tree.Unary unary.ToLocal t) (One a n) y h k f w e = copied ys t a n k.0 f.0 f.1 (same_literal ys a (h.0 N6)) (written (is_element (type_in n)) _ g t n y.0 h.1 k.1 f.2 refl refl)
    argued s g (tree.Unary unary.ToPrivate t) (One a n) y h k f w e = copied ys t a n k.0 f.0 f.1 (same_literal ys a (or_parts (not s.in_item) (hangs_on_sizes a) (h.0 N8)).1) (written (is_element (type_in n)) _ g t n y.0 h.1 k.1 f.2 refl refl)
    argued s g (tree.Unary unary.Then t) (One a n) y h k f w e = absurd (true_is_not_false true refl (h.0 N13))
    argued s g (tree.Binary (binary.Operator o) t u) (Two a n m) y h k f w e = true_is_not_false (is_element a) (operator_is o (type_in n) (type_in m) a y.2).2 e
    argued s g (tree.Binary binary.Pair t u) (Two a n m) y h k f w e =
        clash_element a (types.PairOf (type_in n) (type_in m)) y.2.2 (told_element (types.PairOf (type_in n) (type_in m)) (y.2.0, y.2.1)) e
    argued s g (tree.Binary binary.Zip t u) (Two a n m) y h k f w e = (
      argued _ g t n y.0 h.1 k.0 f.1 w (moved is_element false (type_in n) (types.ArrayOf _ _) y.2.3 refl),
      argued _ g u m y.1 h.2 k.1 f.2 w (moved is_element false (type_in m) (types.ArrayOf _ _) y.2.4 refl),
    )
    argued s g (tree.Binary (binary.Reduce r) t u) (Two a n m) y h k f w e = absurd (true_is_not_false true refl (h.0 N1))
    argued s g (tree.Select t u x) (Three a n m l) y h k f w e = clash_element a types.U32 y.6 refl e
    argued s g (tree.Let v b) (Two a n m) y h k f w e =
        let i = let_of_view d inputs s v b a n m h.0 w in (
          told_ir false (type_in n) i,
          argued _ g v n y.0 h.1 k.0 f.1 (or_left s.in_argument (not (is_element (type_in n))) w) i,
          argued _ (type_in n ∷ g) b m y.1 h.2 k.1 f.2 w (moved is_element false (type_in m) a (sym y.2) e),
        )
    argued s g (tree.Map j xs b) (Two a n m) y h k f w e = absurd (no_map s j xs b a n m h.0 w)
    argued s g (tree.Fold j xs x b) (Three a n m l) y h k f w e = absurd (no_fold s j xs x b a n m l h.0 w)
    argued s g _ _ y h k f w e = absurd y

    -- N1, N10, N11: a term in writing position; an element (true), or not
    pub written : (x : Bool) (s : Around) (g : List PlainTy) (t : Tree) (n : Annotation) → Annotates d g t n → AllUnbroken s t n → CopiesArrays t n → Fits ys t n → s.is_written ≡ true → is_element (type_in n) ≡ x → IsStaged Written t n
    written true s g t n y h k f w e = counted_stands t n (counted d inputs s g t n y h k (or_right s.in_element (is_element (type_in n)) e) (no_array (type_in n) e)) e
    written false s g (tree.Variable v) (Leaf a) y h k f w e = tt
    written false s g (tree.Number v) (Leaf a) y h k f w e = tt
    written false s g (tree.Input i) (Leaf a) y h k f w e = refused s.is_written (is_element a) (h N11) w e
    written false s g (tree.Unary (unary.Div j) t) (One a n) y h k f w e = clash_element a (type_in n) y.1.2 (numeric_is (type_in n) y.1.1) e
    written false s g (tree.Unary (unary.Rem j) t) (One a n) y h k f w e = clash_element a (type_in n) y.1.2 (numeric_is (type_in n) y.1.1) e
    written false s g (tree.Unary unary.First t) (One a n) y h k f w e = refused s.is_written (is_element a) (h.0 N10) w e
    written false s g (tree.Unary unary.Second t) (One a n) y h k f w e = refused s.is_written (is_element a) (h.0 N10) w e
    written false s g (tree.Unary (unary.Layout l) t) (One a n) y h k f w e = written (is_element (type_in n)) (passed s l a) g t n y.0 (through s l t a n (is_through s l t a n h.0 w e) h.1) k.1 f.2 (passes s.is_written (is_element a) w e) refl
    written false s g (tree.Unary (unary.Slide j l) t) (One a n) y h k f w e = refused s.is_written (is_element a) (h.0 N10) w e
    written false s g (tree.Unary (unary.Pad j l) t) (One a n) y h k f w e = refused s.is_written (is_element a) (h.0 N10) w e
    written false s g (tree.Unary unary.ToLocal t) (One a n) y h k f w e = refused s.is_written (is_element a) (h.0 N11) w e
    written false s g (tree.Unary unary.ToPrivate t) (One a n) y h k f w e = refused s.is_written (is_element a) (h.0 N11) w e
    written false s g (tree.Unary unary.Then t) (One a n) y h k f w e = absurd (true_is_not_false true refl (h.0 N13))
    written false s g (tree.Binary (binary.Operator o) t u) (Two a n m) y h k f w e = true_is_not_false (is_element a) (operator_is o (type_in n) (type_in m) a y.2).2 e
    written false s g (tree.Binary binary.Pair t u) (Two a n m) y h k f w e =
        clash_element a (types.PairOf (type_in n) (type_in m)) y.2.2 (told_element (types.PairOf (type_in n) (type_in m)) (y.2.0, y.2.1)) e
    written false s g (tree.Binary binary.Zip t u) (Two a n m) y h k f w e = refused s.is_written (is_element a) (h.0 N10) w e
    written false s g (tree.Binary (binary.Reduce r) t u) (Two a n m) y h k f w e = absurd (true_is_not_false true refl (h.0 N1))
    written false s g (tree.Select t u x) (Three a n m l) y h k f w e = clash_element a types.U32 y.6 refl e
    written false s g (tree.Let v b) (Two a n m) y h k f w e =
        let_stands v b a n m (is_element (type_in n)) refl e
        (λ i. counted d inputs _ g v n y.0 h.1 k.0 (or_right (s.in_element || is_element a) (is_element (type_in n)) i) (no_array (type_in n) i))
        (λ i. argued _ g v n y.0 h.1 k.0 f.1 (or_right s.in_argument (not (is_element (type_in n))) (not_from_false (is_element (type_in n)) i)) i)
        (written (is_element (type_in m)) _ (type_in n ∷ g) b m y.1 h.2 k.1 f.2 (passes s.is_written (is_element a) w e) refl)
    written false s g (tree.Map j xs b) (Two a n m) y h k f w e =
        (argued _ g xs n y.2 h.1 k.0 f.1 (or_right s.in_argument true refl) (moved is_element false (type_in n) (types.ArrayOf _ _) y.3 refl), written (is_element (type_in m)) _ (y.0 ∷ g) b m y.4 h.2 k.1 f.2 (body_written s j xs b a) refl)
    written false s g (tree.Fold j xs x b) (Three a n m l) y h k f w e =
        let i = told_element (type_in m) y.5 in
        let o = moved is_element true (type_in l) (type_in m) y.7 i in (
          argued _ g xs n y.2 h.1 k.0 f.1 (or_right s.in_argument true refl) (moved is_element false (type_in n) (types.ArrayOf _ _) y.3 refl),
          counted d inputs _ g x m y.4 h.2 k.1 (or_right (s.in_element || is_element a) (is_element (type_in m)) i) (no_array (type_in m) i),
          counted d inputs _ (y.0 ∷ type_in m ∷ g) b l y.6 h.3 k.2 (or_right (s.in_element || is_element a) (is_element (type_in l)) o) (no_array (type_in l) o),
        )
    written false s g _ _ y h k f w e = absurd y
