-- What a term without a broken rule is lowered to is typed at each admissible launch.
use Rattle.std.proofs.Common.{◌≡◌, ◌<◌, ◌^◌, ℕ, Bool, true, false, List, [], ◌∷◌, refl, sym, ap, ◌∙◌, subst, inl, inr}
use Rattle.std.proofs.lemmas.Bool.{or_parts}
use Rattle.std.specs.Prelude.{not, ◌&&◌, if◌then◌else◌}
use Rattle.size_arith.specs.declared.names.Name.{Name}
use Rattle.size_arith.specs.declared.poly.Monomial.{Monomial}
use Rattle.lift_tree.specs.declared.layout.Layout as layout
use Rattle.lift_tree.specs.declared.term.UnaryForm.TheVariants as unary
use Rattle.lift_tree.specs.declared.term.BinaryForm.TheVariants as binary
use Rattle.lift_tree.specs.Tree as tree
use Rattle.lift_tree.specs.Tree.{Tree}
use Rattle.lift_tree.specs.Types as types
use Rattle.lift_tree.specs.Types.{PlainTy, is_element}
use Rattle.lift_tree.specs.Typing.{Declared, LayoutRow}
use Rattle.lift_tree.specs.Annotations.{Annotation, Leaf, One, Two, Three, type_in, Annotates}
use Rattle.lift_tree.proofs.Layouts.{layout_same}
use Rattle.lift_ir.specs.Types.{IsShort}
use Rattle.lift_ir.specs.AtLaunch.{length_at, ty_at, outer_of}
use Rattle.lift_ir.specs.Lowering.{Written, Argument, Element}
use Rattle.lift_ir.specs.Lowerable.{IsElementTerm, IsStaged, IsLowerable}
use Rattle.lift_ir.proofs.Elements.{from_ir, told_element, told_ir}
use Rattle.lift_ir.proofs.Typed.{told, flat_at}
use Rattle.lowered_tree.specs.Around.{Around, passed}
use Rattle.lowered_tree.specs.declared.rule.NestRule.TheVariants.{N6, N8, N10, N11, N15}
use Rattle.lowered_tree.specs.Elements.{hangs_on_sizes, holds_vectors}
use Rattle.nest_premises.specs.Unbroken.{AllUnbroken}
use Rattle.nest_premises.proofs.Fits.{Fits}
use Rattle.nest_premises.proofs.Rules.{moved, of_layout, body_written, is_through, through, numeric_is, operator_is}
use Rattle.nest_premises.proofs.Staged.{passes, refused, same_literal}

-- its pairs hold elements, vectors among them
abbrev HoldsSome : PlainTy → Type 0
HoldsSome types.U32 = Unit {0}
HoldsSome types.U32x4 = Unit {0}
HoldsSome (types.PairOf a b) = types.IsElement a × types.IsElement b
HoldsSome (types.ArrayOf a n) = HoldsSome a

layout_some : (names : List Name) (l : layout.Layout) (b a : PlainTy) → LayoutRow names l b a → HoldsSome b → HoldsSome a
layout_some names l b a r h = subst (λ X. X) (sym (layout_same HoldsSome (λ x n. refl) refl names l b a r)) h

-- N15: a copy holds none
numbers : (a : PlainTy) → types.IsElement a → holds_vectors a ≡ false → types.AreNumbers a
numbers types.U32 h e = tt
numbers types.U32x4 h e = absurd (cc)
numbers (types.PairOf a b) h e = let p = or_parts (holds_vectors a) (holds_vectors b) e in (numbers a h.0 p.0, numbers b h.1 p.1)
numbers (types.ArrayOf a n) h e = absurd h

copy_holds : (a : PlainTy) → HoldsSome a → holds_vectors a ≡ false → types.HoldsElements a
copy_holds types.U32 h e = tt
copy_holds types.U32x4 h e = tt
copy_holds (types.PairOf a b) h e = let p = or_parts (holds_vectors a) (holds_vectors b) e in (numbers a h.0 p.0, numbers b h.1 p.1)
copy_holds (types.ArrayOf a n) h e = copy_holds a h e

element_some : (a : PlainTy) → types.IsElement a → HoldsSome a
element_some types.U32 h = tt
element_some types.U32x4 h = tt
element_some (types.PairOf a b) h = h
element_some (types.ArrayOf a n) h = absurd h

element_holds : (a : PlainTy) → is_element a ≡ true → HoldsSome a
element_holds types.U32 e = tt
element_holds types.U32x4 e = tt
element_holds (types.PairOf a b) e = told (types.PairOf a b) (told_ir true (types.PairOf a b) e)
element_holds (types.ArrayOf a n) e = absurd (cc)

-- N10 and N11: where such a node is in writing position, it is an element term
is_counted : (x y : Bool) → (x && not y && true) ≡ false → x ≡ true → y ≡ true
is_counted true true h e = refl
is_counted true false h e = absurd (cc)
is_counted false y h e = absurd (cc)

module _ (d : Declared) (ys : List ℕ) where
  short_of : (g : List PlainTy) (t : Tree) (n : Annotation) → Annotates d g t n → Fits ys t n → IsShort (ty_at ys (type_in n))
  short_of g (tree.Variable v) (Leaf a) y f = f
  short_of g (tree.Number v) (Leaf a) y f = f
  short_of g (tree.Input v) (Leaf a) y f = f
  short_of g (tree.Unary u t) (One a n) y f = f.0
  short_of g (tree.Binary u t x) (Two a n m) y f = f.0
  short_of g (tree.Select t u x) (Three a n m l) y f = f.0
  short_of g (tree.Let v b) (Two a n m) y f = f.0
  short_of g (tree.Map j xs b) (Two a n m) y f = f.0
  short_of g (tree.Fold j xs x b) (Three a n m l) y f = f.0
  short_of g _ _ y f = absurd y

  -- an array's length
  outer_short : (a x : PlainTy) (l : List Monomial) → a ≡ types.ArrayOf x l → IsShort (ty_at ys a) → length_at ys (outer_of a) < 2 ^ 31
  outer_short a x l e h = subst (λ z. length_at ys (outer_of z) < 2 ^ 31) (sym e) (subst (λ z. IsShort (ty_at ys z)) e h).0

  -- what is written holds elements alone
  written_holds : (s : Around) (g : List PlainTy) (t : Tree) (n : Annotation) → Annotates d g t n → AllUnbroken s t n → IsStaged Written t n → s.is_written ≡ true → HoldsSome (type_in n)
  written_holds s g (tree.Variable v) (Leaf a) y h o w = element_holds a (is_counted s.is_written (is_element a) (h N11) w)
  written_holds s g (tree.Number v) (Leaf a) y h o w = subst HoldsSome (sym y.1) tt
  written_holds s g (tree.Unary (unary.Div j) t) (One a n) y h o w = element_holds a (ap is_element y.1.2 ∙ numeric_is (type_in n) y.1.1)
  written_holds s g (tree.Unary (unary.Rem j) t) (One a n) y h o w = element_holds a (ap is_element y.1.2 ∙ numeric_is (type_in n) y.1.1)
  written_holds s g (tree.Unary unary.First t) (One a n) y h o w = element_holds a (is_counted s.is_written (is_element a) (h.0 N10) w)
  written_holds s g (tree.Unary unary.Second t) (One a n) y h o w = element_holds a (is_counted s.is_written (is_element a) (h.0 N10) w)
  written_holds s g (tree.Unary (unary.Layout l) t) (One a n) y h o w =
      let e = of_layout d.names l (type_in n) a y.1 in
      layout_some d.names l _ a y.1 (written_holds (passed s l a) g t n y.0 (through s l t a n (is_through s l t a n h.0 w e) h.1) o (passes s.is_written (is_element a) w e))
  written_holds s g (tree.Unary (unary.Slide j l) t) (One a n) y h o w = refused s.is_written (is_element a) (h.0 N10) w (moved is_element false a (types.ArrayOf _ _) y.1.6 refl)
  written_holds s g (tree.Unary (unary.Pad j l) t) (One a n) y h o w = refused s.is_written (is_element a) (h.0 N10) w (moved is_element false a (types.ArrayOf _ _) y.1.3 refl)
  written_holds s g (tree.Binary (binary.Operator q) t u) (Two a n m) y h o w = element_holds a (operator_is q (type_in n) (type_in m) a y.2).2
  written_holds s g (tree.Binary binary.Pair t u) (Two a n m) y h o w = subst HoldsSome (sym y.2.2) (y.2.0, y.2.1)
  written_holds s g (tree.Select t u x) (Three a n m l) y h o w = subst HoldsSome (sym y.6) tt
  written_holds s g (tree.Let v b) (Two a n m) y h (inl o) w = element_holds a (from_ir true a o.0)
  written_holds s g (tree.Let v b) (Two a n m) y h (inr (inl o)) w = subst HoldsSome (sym y.2) (written_holds _ (type_in n ∷ g) b m y.1 h.2 o.3 (passes s.is_written (is_element a) w (from_ir false a o.0)))
  written_holds s g (tree.Let v b) (Two a n m) y h (inr (inr o)) w = subst HoldsSome (sym y.2) (written_holds _ (type_in n ∷ g) b m y.1 h.2 o.3 (passes s.is_written (is_element a) w (from_ir false a o.0)))
  written_holds s g (tree.Map j xs b) (Two a n m) y h o w = subst HoldsSome (sym y.5) (written_holds _ (y.0 ∷ g) b m y.4 h.2 o.1 (body_written s j xs b a))
  written_holds s g (tree.Fold j xs x b) (Three a n m l) y h o w = subst HoldsSome (sym y.8) (element_holds (type_in m) (told_element (type_in m) y.5))
  written_holds s g _ _ y h o w = absurd o

  pub element_lowerable : (g : List PlainTy) (t : Tree) (n : Annotation) → Annotates d g t n → Fits ys t n → IsElementTerm t n → IsLowerable ys Element t n
  element_lowerable g (tree.Variable v) (Leaf a) y f o = tt
  element_lowerable g (tree.Number v) (Leaf a) y f o = tt
  element_lowerable g (tree.Unary (unary.Div j) t) (One a n) y f o = (f.0, short_of g t n y.0 f.2, tt, element_lowerable g t n y.0 f.2 o)
  element_lowerable g (tree.Unary (unary.Rem j) t) (One a n) y f o = (f.0, short_of g t n y.0 f.2, tt, element_lowerable g t n y.0 f.2 o)
  element_lowerable g (tree.Unary unary.First t) (One a n) y f o = (f.0, short_of g t n y.0 f.2, tt, element_lowerable g t n y.0 f.2 o)
  element_lowerable g (tree.Unary unary.Second t) (One a n) y f o = (f.0, short_of g t n y.0 f.2, tt, element_lowerable g t n y.0 f.2 o)
  element_lowerable g (tree.Binary (binary.Operator q) t u) (Two a n m) y f o = (tt, element_lowerable g t n y.0 f.1 o.0, element_lowerable g u m y.1 f.2 o.1)
  element_lowerable g (tree.Binary binary.Pair t u) (Two a n m) y f o = (tt, element_lowerable g t n y.0 f.1 o.0, element_lowerable g u m y.1 f.2 o.1)
  element_lowerable g (tree.Select t u x) (Three a n m l) y f o = (element_lowerable g t n y.0 f.1 o.0, element_lowerable g u m y.1 f.2 o.1, element_lowerable g x l y.2 f.3 o.2)
  element_lowerable g (tree.Let v b) (Two a n m) y f o =
      (subst (λ x. IsLowerable ys (if x then Element else Argument) v n) (sym o.0) (element_lowerable g v n y.0 f.1 o.1), element_lowerable (type_in n ∷ g) b m y.1 f.2 o.2)
  element_lowerable g _ _ y f o = absurd o

  mutual
    pub argument_lowerable : (s : Around) (g : List PlainTy) (t : Tree) (n : Annotation) → Annotates d g t n → AllUnbroken s t n → Fits ys t n → IsStaged Argument t n → IsLowerable ys Argument t n
    argument_lowerable s g (tree.Variable v) (Leaf a) y h f o = tt
    argument_lowerable s g (tree.Input i) (Leaf a) y h f o = tt
    argument_lowerable s g (tree.Unary unary.First t) (One a n) y h f o = (f.0, short_of g t n y.0 f.2, tt, argument_lowerable _ g t n y.0 h.1 f.2 o)
    argument_lowerable s g (tree.Unary unary.Second t) (One a n) y h f o = (f.0, short_of g t n y.0 f.2, tt, argument_lowerable _ g t n y.0 h.1 f.2 o)
    argument_lowerable s g (tree.Unary (unary.Layout l) t) (One a n) y h f o = (f.0, short_of g t n y.0 f.2, tt, argument_lowerable _ g t n y.0 h.1 f.2 o)
    argument_lowerable s g (tree.Unary (unary.Slide j l) t) (One a n) y h f o = (f.0, short_of g t n y.0 f.2, f.1, argument_lowerable _ g t n y.0 h.1 f.2 o)
    argument_lowerable s g (tree.Unary (unary.Pad j l) t) (One a n) y h f o = (f.0, short_of g t n y.0 f.2, tt, argument_lowerable _ g t n y.0 h.1 f.2 o)
    argument_lowerable s g (tree.Unary unary.ToLocal t) (One a n) y h f o =
        let flat = flat_at [] a (copy_holds a (subst HoldsSome y.1 (written_holds _ g t n y.0 h.1 o.3 refl)) (h.0 N15)) in
        (f.0, short_of g t n y.0 f.2, (flat, same_literal ys a (h.0 N6)), written_lowerable _ g t n y.0 h.1 f.2 o.3 refl)
    argument_lowerable s g (tree.Unary unary.ToPrivate t) (One a n) y h f o =
        let flat = flat_at [] a (copy_holds a (subst HoldsSome y.1 (written_holds _ g t n y.0 h.1 o.3 refl)) (h.0 N15)) in
        (f.0, short_of g t n y.0 f.2, (flat, same_literal ys a (or_parts (not s.in_item) (hangs_on_sizes a) (h.0 N8)).1), written_lowerable _ g t n y.0 h.1 f.2 o.3 refl)
    argument_lowerable s g (tree.Binary binary.Zip t u) (Two a n m) y h f o = (tt, argument_lowerable _ g t n y.0 h.1 f.1 o.0, argument_lowerable _ g u m y.1 h.2 f.2 o.1)
    argument_lowerable s g (tree.Let v b) (Two a n m) y h f o =
        (subst (λ x. IsLowerable ys (if x then Element else Argument) v n) (sym o.0) (argument_lowerable _ g v n y.0 h.1 f.1 o.1), argument_lowerable _ (type_in n ∷ g) b m y.1 h.2 f.2 o.2)
    argument_lowerable s g _ _ y h f o = absurd o

    pub written_lowerable : (s : Around) (g : List PlainTy) (t : Tree) (n : Annotation) → Annotates d g t n → AllUnbroken s t n → Fits ys t n → IsStaged Written t n → s.is_written ≡ true → IsLowerable ys Written t n
    written_lowerable s g (tree.Variable v) (Leaf a) y h f o w = told a (told_ir true a (is_counted s.is_written (is_element a) (h N11) w))
    written_lowerable s g (tree.Number v) (Leaf a) y h f o w = tt
    written_lowerable s g (tree.Unary (unary.Div j) t) (One a n) y h f o w = (f.0, short_of g t n y.0 f.2, tt, element_lowerable g t n y.0 f.2 o)
    written_lowerable s g (tree.Unary (unary.Rem j) t) (One a n) y h f o w = (f.0, short_of g t n y.0 f.2, tt, element_lowerable g t n y.0 f.2 o)
    written_lowerable s g (tree.Unary unary.First t) (One a n) y h f o w = (f.0, short_of g t n y.0 f.2, told a (told_ir true a (is_counted s.is_written (is_element a) (h.0 N10) w)), element_lowerable g t n y.0 f.2 o)
    written_lowerable s g (tree.Unary unary.Second t) (One a n) y h f o w = (f.0, short_of g t n y.0 f.2, told a (told_ir true a (is_counted s.is_written (is_element a) (h.0 N10) w)), element_lowerable g t n y.0 f.2 o)
    written_lowerable s g (tree.Unary (unary.Layout l) t) (One a n) y h f o w =
        let e = of_layout d.names l (type_in n) a y.1 in
        (f.0, short_of g t n y.0 f.2, tt, written_lowerable (passed s l a) g t n y.0 (through s l t a n (is_through s l t a n h.0 w e) h.1) f.2 o (passes s.is_written (is_element a) w e))
    written_lowerable s g (tree.Unary (unary.Slide j l) t) (One a n) y h f o w = refused s.is_written (is_element a) (h.0 N10) w (moved is_element false a (types.ArrayOf _ _) y.1.6 refl)
    written_lowerable s g (tree.Unary (unary.Pad j l) t) (One a n) y h f o w = refused s.is_written (is_element a) (h.0 N10) w (moved is_element false a (types.ArrayOf _ _) y.1.3 refl)
    written_lowerable s g (tree.Binary (binary.Operator q) t u) (Two a n m) y h f o w = (tt, element_lowerable g t n y.0 f.1 o.0, element_lowerable g u m y.1 f.2 o.1)
    written_lowerable s g (tree.Binary binary.Pair t u) (Two a n m) y h f o w = (tt, element_lowerable g t n y.0 f.1 o.0, element_lowerable g u m y.1 f.2 o.1)
    written_lowerable s g (tree.Select t u x) (Three a n m l) y h f o w = (element_lowerable g t n y.0 f.1 o.0, element_lowerable g u m y.1 f.2 o.1, element_lowerable g x l y.2 f.3 o.2)
    written_lowerable s g (tree.Let v b) (Two a n m) y h f (inl o) w = (
      subst (λ x. IsLowerable ys (if x then Element else Argument) v n) (sym o.1) (element_lowerable g v n y.0 f.1 o.2),
      subst (λ x. IsLowerable ys (if x then Element else Written) b m) (sym o.0) (element_lowerable (type_in n ∷ g) b m y.1 f.2 o.3),
    )
    written_lowerable s g (tree.Let v b) (Two a n m) y h f (inr (inl o)) w = (
      subst (λ x. IsLowerable ys (if x then Element else Argument) v n) (sym o.1) (element_lowerable g v n y.0 f.1 o.2),
      subst (λ x. IsLowerable ys (if x then Element else Written) b m) (sym o.0) (written_lowerable _ (type_in n ∷ g) b m y.1 h.2 f.2 o.3 (passes s.is_written (is_element a) w (from_ir false a o.0))),
    )
    written_lowerable s g (tree.Let v b) (Two a n m) y h f (inr (inr o)) w = (
      subst (λ x. IsLowerable ys (if x then Element else Argument) v n) (sym o.1) (argument_lowerable _ g v n y.0 h.1 f.1 o.2),
      subst (λ x. IsLowerable ys (if x then Element else Written) b m) (sym o.0) (written_lowerable _ (type_in n ∷ g) b m y.1 h.2 f.2 o.3 (passes s.is_written (is_element a) w (from_ir false a o.0))),
    )
    written_lowerable s g (tree.Map j xs b) (Two a n m) y h f o w =
        (outer_short (type_in n) y.0 y.1 y.3 (short_of g xs n y.2 f.1), argument_lowerable _ g xs n y.2 h.1 f.1 o.0, written_lowerable _ (y.0 ∷ g) b m y.4 h.2 f.2 o.1 (body_written s j xs b a))
    written_lowerable s g (tree.Fold j xs x b) (Three a n m l) y h f o w = (
      outer_short (type_in n) y.0 y.1 y.3 (short_of g xs n y.2 f.1),
      argument_lowerable _ g xs n y.2 h.1 f.1 o.0,
      element_lowerable g x m y.4 f.2 o.1,
      element_lowerable (y.0 ∷ type_in m ∷ g) b l y.6 f.3 o.2,
    )
    written_lowerable s g _ _ y h f o w = absurd o
