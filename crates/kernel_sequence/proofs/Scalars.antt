-- Where no map's or fold's binder is around, an array has few scalars: it is an input, or some form
-- made it within the limits.
use Rattle.std.proofs.Common.{◌≡◌, List, ◌∷◌, sym, subst, inl, inr}
use Rattle.std.specs.Prelude.{◌⊎◌}
use Rattle.size_arith.specs.declared.poly.Monomial.{Monomial}
use Rattle.lift_tree.specs.declared.layout.Layout as layout
use Rattle.lift_tree.specs.declared.term.Operator.{Operator}
use Rattle.lift_tree.specs.declared.term.UnaryForm.{UnaryForm}
use Rattle.lift_tree.specs.declared.term.UnaryForm.TheVariants as unary
use Rattle.lift_tree.specs.declared.term.BinaryForm.{BinaryForm}
use Rattle.lift_tree.specs.declared.term.BinaryForm.TheVariants as binary
use Rattle.lift_tree.specs.Lists.{Every}
use Rattle.lift_tree.specs.Tree as tree
use Rattle.lift_tree.specs.Tree.{Tree}
use Rattle.lift_tree.specs.Types.{PlainTy, U32, U32x4, PairOf, ArrayOf}
use Rattle.lift_tree.specs.Limits.{HasFewScalars, LayoutFits, NodesFit, OuterFits, UnaryFits}
use Rattle.lift_tree.specs.Typing.{BinaryRow, Declared, OperatorRow, UnaryRow}
use Rattle.lift_tree.specs.Annotations.{Annotates, Annotation, Leaf, One, Two, Three, type_in}
use Rattle.lift_tree.proofs.EveryAt.{every_at}
use Rattle.lift_tree.proofs.Layouts.{FormsAnew, layout_cases}

module _ (d : Declared) (inputs : Every (HasFewScalars d.names) d.inputs) where
  abbrev Few : PlainTy → Type 0
  Few a = HasFewScalars d.names a

  number : (a : PlainTy) → a ≡ U32 → Few a
  number a e = subst Few (sym e) tt

  vector : (a : PlainTy) → a ≡ U32x4 → Few a
  vector a e = subst Few (sym e) tt

  outer : (a : PlainTy) (x : PlainTy) (n : List Monomial) → a ≡ ArrayOf x n → OuterFits d.names a → Few a
  outer a x n e h = subst Few (sym e) (subst (OuterFits d.names) e h).scalars

  of_layout : (l : layout.Layout) (b a : PlainTy) → (b ≡ a) ⊎ FormsAnew d.names l b a → LayoutFits d.names l b → Few b → Few a
  of_layout l b a (inl e) u h = subst Few e h
  of_layout l b a (inr r) u h = subst Few (sym r.is) (r.fits u).scalars

  of_unary : (f : UnaryForm) (b a : PlainTy) → UnaryRow d.names f b a → UnaryFits d.names f b → Few b → Few a
  of_unary (unary.Div k) b a r u h = subst Few (sym r.2) h
  of_unary (unary.Rem k) b a r u h = subst Few (sym r.2) h
  of_unary unary.First b a r u h = (subst Few r.1 h).0
  of_unary unary.Second b a r u h = (subst Few r.1 h).1
  of_unary (unary.Layout l) b a r u h = of_layout l b a (layout_cases d.names l b a r) u h
  of_unary (unary.Slide s t) b a r u h = subst Few (sym r.6) (subst (UnaryFits d.names (unary.Slide s t)) r.2 u).3.scalars
  of_unary (unary.Pad l k) b a r u h = subst Few (sym r.3) (subst (UnaryFits d.names (unary.Pad l k)) r.2 u).2.scalars
  of_unary unary.ToLocal b a r u h = subst Few r h
  of_unary unary.ToPrivate b a r u h = subst Few r h
  of_unary unary.Then b a r u h = subst Few r h

  of_operator : (o : Operator) (b c a : PlainTy) → OperatorRow o b c a → Few a
  of_operator o U32 U32 a r = number a r
  of_operator o U32 U32x4 a r = vector a r.1
  of_operator o U32x4 U32 a r = vector a r.1
  of_operator o U32x4 U32x4 a r = vector a r.1
  of_operator o _ _ a r = absurd (assumption)

  of_binary : (f : BinaryForm) (b c a : PlainTy) → BinaryRow f b c a → OuterFits d.names a → Few b → Few c → Few a
  of_binary (binary.Operator o) b c a r u h k = of_operator o b c a r
  of_binary binary.Pair b c a r u h k = subst Few (sym r.2) (h, k)
  of_binary binary.Zip b c a r u h k = outer a (PairOf r.0 r.1) r.2 r.5 u
  of_binary (binary.Reduce o) b c a r u h k = outer a U32 _ r.3 u

  -- the binders around are lets'
  pub few_scalars : (g : List PlainTy) (t : Tree) (n : Annotation) → Every Few g → Annotates d g t n → NodesFit d.names t n → Few (type_in n)
  few_scalars g (tree.Variable v) (Leaf a) all y h = every_at Few g v a all y
  few_scalars g (tree.Number c) (Leaf a) all y h = number a y.1
  few_scalars g (tree.Input i) (Leaf a) all y h = every_at Few d.inputs i a inputs y
  few_scalars g (tree.Unary f t) (One a n) all y h = of_unary f (type_in n) a y.1 h.1 (few_scalars g t n all y.0 h.0)
  few_scalars g (tree.Binary f t u) (Two a n m) all y h = of_binary f (type_in n) (type_in m) a y.2 h.2 (few_scalars g t n all y.0 h.0) (few_scalars g u m all y.1 h.1)
  few_scalars g (tree.Select t u x) (Three a n m l) all y h = number a y.6
  few_scalars g (tree.Let v c) (Two a n m) all y h = subst Few (sym y.2) (few_scalars (type_in n ∷ g) c m (few_scalars g v n all y.0 h.0, all) y.1 h.1)
  few_scalars g (tree.Map j xs c) (Two a n m) all y h = outer a (type_in m) y.1 y.5 h.2
  few_scalars g (tree.Fold j xs s c) (Three a n m l) all y h = outer a (type_in m) _ y.8 h.3
  few_scalars g _ _ all y h = absurd y
