-- A program's text has no vectors, so no type in it holds one.
use Rattle.std.proofs.Common.{◌≡◌, ℕ, suc, ◌+◌, List, [], ◌∷◌, map, subst, sym}
use Rattle.lift_tree.specs.Copies.{HasNoVector, FormPairsNumbers}
use Rattle.lift_tree.specs.InputTypes.{Written, Number, Pair, Array}
use Rattle.lift_tree.specs.Lists.{Every}
use Rattle.lift_tree.specs.Programs.{PlainInput}
use Rattle.lift_tree.specs.Types.{PlainTy, U32, U32x4, PairOf, ArrayOf}
use Rattle.lift_tree.specs.Typing.{Declared, LayoutRow, OperatorRow, UnaryRow, BinaryRow, Types}
use Rattle.lift_tree.specs.WorkedOut.{worked_out}
use Rattle.lift_tree.specs.declared.layout.Layout as layouts
use Rattle.lift_tree.specs.declared.layout.Layout.TheVariants.{Join, Transpose, Split, Reverse, Stride, AsVector, AsScalar}
use Rattle.lift_tree.specs.declared.term.Operator.{Operator}
use Rattle.lift_tree.specs.declared.term.UnaryForm.{UnaryForm}
use Rattle.lift_tree.specs.declared.term.UnaryForm.TheVariants as unaries
use Rattle.lift_tree.specs.declared.term.BinaryForm.{BinaryForm}
use Rattle.lift_tree.specs.declared.term.BinaryForm.TheVariants as binaries
use Rattle.lift_tree.specs.Tree as trees
use Rattle.lift_tree.specs.Tree.{Tree}
use Rattle.lift_tree.proofs.EveryAt.{every_at}
use Rattle.lift_reader.specs.TextTerms.{IsOfNumbers, IsPlain, IsTextTerm}

-- ---- inputs
written_has_none : (d : Declared) (w : Written) → HasNoVector (worked_out d.names w)
written_has_none d Number = tt
written_has_none d (Pair a b) = (written_has_none d a, written_has_none d b)
written_has_none d (Array a n) = written_has_none d a

pub inputs_have_none : (d : Declared) (is : List PlainInput) → Every HasNoVector (map (λ (i : PlainInput). worked_out d.names i.ty) is)
inputs_have_none d [] = tt
inputs_have_none d (i ∷ is) = (written_has_none d i.ty, inputs_have_none d is)

-- ---- forms
-- a type is without, as what it equals
without : (a b : PlainTy) → a ≡ b → HasNoVector b → HasNoVector a
without a b e h = subst HasNoVector (sym e) h

layout_has_none : (d : Declared) (l : layouts.Layout) (b a : PlainTy) → IsOfNumbers l → LayoutRow d.names l b a → HasNoVector b → HasNoVector a
layout_has_none d Join b a p r h = without a _ r.4 (subst HasNoVector r.3 h)
layout_has_none d Transpose b a p r h = without a _ r.4 (subst HasNoVector r.3 h)
layout_has_none d (Split fs) b a p r h = without a _ r.4 (subst HasNoVector r.2 h)
layout_has_none d Reverse b a p r h = without a _ r.3 (subst HasNoVector r.2 h)
layout_has_none d (Stride fs) b a p r h = without a _ r.4 (subst HasNoVector r.2 h)
layout_has_none d AsVector b a p r h = absurd p
layout_has_none d AsScalar b a p r h = absurd p

unary_has_none : (d : Declared) (f : UnaryForm) (b a : PlainTy) → IsPlain f → UnaryRow d.names f b a → HasNoVector b → HasNoVector a
unary_has_none d (unaries.Div n) b a p r h = without a b r.2 h
unary_has_none d (unaries.Rem n) b a p r h = without a b r.2 h
unary_has_none d unaries.First b a p r h = (subst HasNoVector r.1 h).0
unary_has_none d unaries.Second b a p r h = (subst HasNoVector r.1 h).1
unary_has_none d (unaries.Layout l) b a p r h = layout_has_none d l b a p r h
unary_has_none d (unaries.Slide s t) b a p r h = without a _ r.6 (subst HasNoVector r.2 h)
unary_has_none d (unaries.Pad s t) b a p r h = without a _ r.3 (subst HasNoVector r.2 h)
unary_has_none d unaries.ToLocal b a p r h = absurd p
unary_has_none d unaries.ToPrivate b a p r h = absurd p
unary_has_none d unaries.Then b a p r h = absurd p

operator_has_none : (o : Operator) (b c a : PlainTy) → OperatorRow o b c a → HasNoVector b → HasNoVector c → HasNoVector a
operator_has_none o U32 U32 a r h k = without a U32 r tt
operator_has_none o U32 U32x4 a r h k = absurd k
operator_has_none o U32x4 U32 a r h k = absurd h
operator_has_none o U32x4 U32x4 a r h k = absurd h
operator_has_none o _ _ a r h k = absurd r

binary_has_none : (f : BinaryForm) (b c a : PlainTy) → BinaryRow f b c a → HasNoVector b → HasNoVector c → HasNoVector a
binary_has_none (binaries.Operator o) b c a r h k = operator_has_none o b c a r h k
binary_has_none binaries.Pair b c a r h k = without a (PairOf b c) r.2 (h, k)
binary_has_none binaries.Zip b c a r h k = without a _ r.5 (subst HasNoVector r.3 h, subst HasNoVector r.4 k)
binary_has_none (binaries.Reduce o) b c a r h k = without a _ r.3 tt

pub pairs_numbers : (f : BinaryForm) (a : PlainTy) → HasNoVector a → FormPairsNumbers f a
pairs_numbers (binaries.Operator o) a h = tt
pairs_numbers binaries.Pair a h = h
pairs_numbers binaries.Zip a h = h
pairs_numbers (binaries.Reduce o) a h = tt

-- ---- terms
-- a typed term that a text may have holds no vector, where the binders and inputs hold none
module _ (d : Declared) (inputs : Every HasNoVector d.inputs) (s i : ℕ) where
  pub text_has_none : (b l : ℕ) (g : List PlainTy) → Every HasNoVector g → (t : Tree) (a : PlainTy) → IsTextTerm s i b l t → Types d g t a → HasNoVector a
  text_has_none b l g all (trees.Variable k) a p h = every_at HasNoVector g k a all h
  text_has_none b l g all (trees.Number k) a p h = without a U32 h.1 tt
  text_has_none b l g all (trees.Input k) a p h = every_at HasNoVector d.inputs k a inputs h
  text_has_none b l g all (trees.Unary f t) a p h = unary_has_none d f h.0 a p.1.1 h.2 (text_has_none b (l + 1) g all t h.0 p.2 h.1)
  text_has_none b l g all (trees.Binary f t u) a p h =
      binary_has_none f h.0 h.1 a h.4 (text_has_none b (l + 1) g all t h.0 p.1 h.2) (text_has_none b (l + 1) g all u h.1 p.2 h.3)
  text_has_none b l g all (trees.Select t u v) a p h = without a U32 h.3 tt
  text_has_none b l g all (trees.Let v e) a p h = text_has_none (suc b) (l + 1) (h.0 ∷ g) (text_has_none b (l + 1) g all v h.0 p.1 h.1, all) e a p.2 h.2
  text_has_none b l g all (trees.Map k xs e) a p h =
      without a _ h.5 (text_has_none (suc b) (l + 1) (h.0 ∷ g) (text_has_none b (l + 1) g all xs (ArrayOf h.0 h.2) p.1 h.3, all) e h.1 p.2 h.4)
  text_has_none b l g all (trees.Fold k xs u e) a p h = without a _ h.7 (text_has_none b (l + 1) g all u h.1 p.2 h.4)
