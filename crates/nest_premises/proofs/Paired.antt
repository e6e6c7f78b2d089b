-- Pairs of vectors never come up, as inputs have none and no form makes one.
use Rattle.std.proofs.Common.{List, [], ◌∷◌, refl, sym, subst}
use Rattle.lift_tree.specs.declared.layout.Layout as layout
use Rattle.lift_tree.specs.declared.term.Operator.{Operator}
use Rattle.lift_tree.specs.declared.term.UnaryForm.{UnaryForm}
use Rattle.lift_tree.specs.declared.term.UnaryForm.TheVariants.{Div, Rem, First, Second, Layout, Slide, Pad, ToLocal, ToPrivate, Then}
use Rattle.lift_tree.specs.declared.term.BinaryForm.{BinaryForm}
use Rattle.lift_tree.specs.declared.term.BinaryForm.TheVariants as binary
use Rattle.lift_tree.specs.Tree.{Tree, Variable, Number, Input, Unary, Binary, Select, Let, Map, Fold}
use Rattle.lift_tree.specs.Lists.{Every}
use Rattle.lift_tree.specs.Types.{PlainTy, U32, U32x4, PairOf, ArrayOf, AreNumbers, HoldsElements, IsInput}
use Rattle.lift_tree.specs.Typing.{Declared, LayoutRow, UnaryRow, BinaryRow, OperatorRow}
use Rattle.lift_tree.specs.Annotations.{Annotation, Annotates, type_in}
use Rattle.lift_tree.specs.Copies.{HasNoVector, FormPairsNumbers, CopiesArrays}
use Rattle.lift_tree.proofs.Copies.{ArrayCopies, TypesUnder, types_copying}
use Rattle.lift_tree.proofs.Layouts.{layout_same}
use Rattle.lift_tree.proofs.EveryAt.{every_at}

-- no vector is in its pairs
abbrev pub PairsNumbers : PlainTy → Type 0
PairsNumbers U32 = Unit {0}
PairsNumbers U32x4 = Unit {0}
PairsNumbers (PairOf a b) = HasNoVector a × HasNoVector b
PairsNumbers (ArrayOf a n) = PairsNumbers a

numbers : (a : PlainTy) → AreNumbers a → HasNoVector a
numbers U32 h = tt
numbers (PairOf a b) h = (numbers a h.0, numbers b h.1)
numbers _ h = absurd (assumption)

-- so it is with what holds elements
holding : (a : PlainTy) → HoldsElements a → PairsNumbers a
holding U32 h = tt
holding U32x4 h = tt
holding (PairOf a b) h = (numbers a h.0, numbers b h.1)
holding (ArrayOf a n) h = holding a h

input_paired : (a : PlainTy) → IsInput a → PairsNumbers a
input_paired U32 h = absurd h
input_paired U32x4 h = absurd h
input_paired (PairOf a b) h = absurd h
input_paired (ArrayOf a n) h = holding a h

pub inputs_paired : (tys : List PlainTy) → Every IsInput tys → Every PairsNumbers tys
inputs_paired [] h = tt
inputs_paired (a ∷ tys) h = (input_paired a h.0, inputs_paired tys h.1)

no_vector : (a : PlainTy) → HasNoVector a → PairsNumbers a
no_vector U32 h = tt
no_vector U32x4 h = absurd h
no_vector (PairOf a b) h = h
no_vector (ArrayOf a n) h = no_vector a h

module _ (d : Declared) (inputs : Every PairsNumbers d.inputs) where
  layout_paired : (l : layout.Layout) (b a : PlainTy) → LayoutRow d.names l b a → PairsNumbers b → PairsNumbers a
  layout_paired l b a r h = subst (λ X. X) (sym (layout_same PairsNumbers (λ x n. refl) refl d.names l b a r)) h

  unary_paired : (f : UnaryForm) (b a : PlainTy) → UnaryRow d.names f b a → PairsNumbers b → PairsNumbers a
  unary_paired (Div n) b a r h = subst PairsNumbers (sym r.2) h
  unary_paired (Rem n) b a r h = subst PairsNumbers (sym r.2) h
  unary_paired First b a r h = no_vector a (subst PairsNumbers r.1 h).0
  unary_paired Second b a r h = no_vector a (subst PairsNumbers r.1 h).1
  unary_paired (Layout l) b a r h = layout_paired l b a r h
  unary_paired (Slide s t) b a r h = subst PairsNumbers (sym r.6) (subst PairsNumbers r.2 h)
  unary_paired (Pad l k) b a r h = subst PairsNumbers (sym r.3) (subst PairsNumbers r.2 h)
  unary_paired ToLocal b a r h = subst PairsNumbers r h
  unary_paired ToPrivate b a r h = subst PairsNumbers r h
  unary_paired Then b a r h = subst PairsNumbers r h

  operator_paired : (o : Operator) (b c a : PlainTy) → OperatorRow o b c a → PairsNumbers a
  operator_paired o U32 U32 a r = subst PairsNumbers (sym r) tt
  operator_paired o U32 U32x4 a r = subst PairsNumbers (sym r.1) tt
  operator_paired o U32x4 U32 a r = subst PairsNumbers (sym r.1) tt
  operator_paired o U32x4 U32x4 a r = subst PairsNumbers (sym r.1) tt
  operator_paired o _ _ a r = absurd (assumption)

  binary_paired : (f : BinaryForm) (b c a : PlainTy) → BinaryRow f b c a → FormPairsNumbers f a → PairsNumbers a
  binary_paired (binary.Operator o) b c a r p = operator_paired o b c a r
  binary_paired binary.Pair b c a r p = no_vector a p
  binary_paired binary.Zip b c a r p = no_vector a p
  binary_paired (binary.Reduce o) b c a r p = subst PairsNumbers (sym r.3) tt

  paired : (g : List PlainTy) (t : Tree) (a : PlainTy) → Every PairsNumbers g → TypesUnder ArrayCopies d g t a → PairsNumbers a
  paired g (Variable n) a all h = every_at PairsNumbers g n a all h
  paired g (Number n) a all h = subst PairsNumbers (sym h.1) tt
  paired g (Input n) a all h = every_at PairsNumbers d.inputs n a inputs h
  paired g (Unary f t) a all h = unary_paired f h.0 a h.2 (paired g t h.0 all h.1)
  paired g (Binary f t u) a all h = binary_paired f h.0 h.1 a h.4 h.5
  paired g (Select t u v) a all h = subst PairsNumbers (sym h.3) tt
  paired g (Let v b) a all h = paired (h.0 ∷ g) b a (paired g v h.0 all h.1, all) h.2
  paired g (Map k xs b) a all h =
      subst PairsNumbers (sym h.5) (paired (h.0 ∷ g) b h.1 (paired g xs (ArrayOf h.0 h.2) all h.3, all) h.4)
  paired g (Fold k xs s b) a all h = subst PairsNumbers (sym h.7) (paired g s h.1 all h.4)

pub pairs_hold_numbers : (d : Declared) (g : List PlainTy) (t : Tree) (n : Annotation) → Every PairsNumbers d.inputs → Every PairsNumbers g → Annotates d g t n → CopiesArrays t n → PairsNumbers (type_in n)
pairs_hold_numbers d g t n inputs all nodes copies = paired d inputs g t (type_in n) all (types_copying d g t n nodes copies)
