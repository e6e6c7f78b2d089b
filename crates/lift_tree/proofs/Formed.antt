-- A typed term's type is formed.
use Rattle.std.proofs.Common.{◌≡◌, List, ◌∷◌, sym, subst, arith, inl, inr}
use Rattle.std.specs.Prelude.{◌⊎◌}
use Rattle.std.proofs.lemmas.Int.{ints}
use Rattle.size_arith.specs.declared.names.Name.{Name}
use Rattle.size_arith.specs.Shown.{ShownAtLeast, part}
use Rattle.size_arith.specs.Polynomial.{no_powers}
use Rattle.size_arith.specs.Ranges.{leasts}
use Rattle.lift_tree.specs.declared.layout.Layout as layout
use Rattle.lift_tree.specs.declared.term.UnaryForm.{UnaryForm}
use Rattle.lift_tree.specs.declared.term.UnaryForm.TheVariants.{Div, Rem, First, Second, Layout, Slide, Pad, ToLocal, ToPrivate, Then}
use Rattle.lift_tree.specs.declared.term.BinaryForm.{BinaryForm}
use Rattle.lift_tree.specs.declared.term.BinaryForm.TheVariants as binary
use Rattle.lift_tree.specs.Tree.{Tree, Variable, Number, Input, Unary, Binary, Select, Let, Map, Fold}
use Rattle.lift_tree.specs.Lists.{Every}
use Rattle.lift_tree.specs.declared.term.Operator.{Operator}
use Rattle.lift_tree.specs.Types.{PlainTy, U32, U32x4, ArrayOf, IsFormed}
use Rattle.lift_tree.specs.Typing.{Declared, UnaryRow, BinaryRow, OperatorRow, Types, constant}
use Rattle.lift_tree.specs.Annotations.{Annotates, Annotation, type_in}
use Rattle.lift_tree.proofs.Annotated.{annotated_is_typed}
use Rattle.lift_tree.proofs.EveryAt.{every_at}
use Rattle.lift_tree.proofs.Layouts.{FormsAnew, layout_cases}

pub one_shown : (names : List Name) → ShownAtLeast 1 names (constant 1)
one_shown names js h = let n = part (leasts names) no_powers js in omega (arith, ints)

module _ (d : Declared) (inputs : Every (IsFormed d.names) d.inputs) where
  layout_formed : (l : layout.Layout) (b a : PlainTy) → (b ≡ a) ⊎ FormsAnew d.names l b a → IsFormed d.names b → IsFormed d.names a
  layout_formed l b a (inl e) h = subst (IsFormed d.names) e h
  layout_formed l b a (inr r) h = r.formed

  unary_formed : (f : UnaryForm) (b a : PlainTy) → UnaryRow d.names f b a → IsFormed d.names b → IsFormed d.names a
  unary_formed (Div n) b a r h = subst (IsFormed d.names) (sym r.2) h
  unary_formed (Rem n) b a r h = subst (IsFormed d.names) (sym r.2) h
  unary_formed First b a r h = (subst (IsFormed d.names) r.1 h).0
  unary_formed Second b a r h = (subst (IsFormed d.names) r.1 h).1
  unary_formed (Layout l) b a r h = layout_formed l b a (layout_cases d.names l b a r) h
  unary_formed (Slide s t) b a r h = r.7
  unary_formed (Pad l k) b a r h = r.4
  unary_formed ToLocal b a r h = subst (IsFormed d.names) r h
  unary_formed ToPrivate b a r h = subst (IsFormed d.names) r h
  unary_formed Then b a r h = subst (IsFormed d.names) r h

  operator_formed : (o : Operator) (b c a : PlainTy) → OperatorRow o b c a → IsFormed d.names a
  operator_formed o U32 U32 a r = subst (IsFormed d.names) (sym r) tt
  operator_formed o U32 U32x4 a r = subst (IsFormed d.names) (sym r.1) tt
  operator_formed o U32x4 U32 a r = subst (IsFormed d.names) (sym r.1) tt
  operator_formed o U32x4 U32x4 a r = subst (IsFormed d.names) (sym r.1) tt
  operator_formed o _ _ a r = absurd (assumption)

  binary_formed : (f : BinaryForm) (b c a : PlainTy) → BinaryRow f b c a → IsFormed d.names b → IsFormed d.names c → IsFormed d.names a
  binary_formed (binary.Operator o) b c a r h k = operator_formed o b c a r
  binary_formed binary.Pair b c a r h k = subst (IsFormed d.names) (sym r.2) (h, k)
  binary_formed binary.Zip b c a r h k =
      let x = subst (IsFormed d.names) r.3 h in
      let y = subst (IsFormed d.names) r.4 k in
      subst (IsFormed d.names) (sym r.5) (x.0, (x.1, y.1))
  binary_formed (binary.Reduce o) b c a r h k = subst (IsFormed d.names) (sym r.3) (one_shown d.names, tt)

  pub formed : (g : List PlainTy) (t : Tree) (a : PlainTy) → Every (IsFormed d.names) g → Types d g t a → IsFormed d.names a
  formed g (Variable n) a all h = every_at (IsFormed d.names) g n a all h
  formed g (Number n) a all h = subst (IsFormed d.names) (sym h.1) tt
  formed g (Input n) a all h = every_at (IsFormed d.names) d.inputs n a inputs h
  formed g (Unary f t) a all h = unary_formed f h.0 a h.2 (formed g t h.0 all h.1)
  formed g (Binary f t u) a all h = binary_formed f h.0 h.1 a h.4 (formed g t h.0 all h.2) (formed g u h.1 all h.3)
  formed g (Select t u v) a all h = subst (IsFormed d.names) (sym h.3) tt
  formed g (Let v b) a all h = formed (h.0 ∷ g) b a (formed g v h.0 all h.1, all) h.2
  formed g (Map k xs b) a all h =
      let x = formed g xs (ArrayOf h.0 h.2) all h.3 in
      subst (IsFormed d.names) (sym h.5) (x.0, formed (h.0 ∷ g) b h.1 (x.1, all) h.4)
  formed g (Fold k xs s b) a all h = subst (IsFormed d.names) (sym h.7) (one_shown d.names, formed g s h.1 all h.4)

  pub formed_in : (g : List PlainTy) (t : Tree) (n : Annotation) → Every (IsFormed d.names) g → Annotates d g t n → IsFormed d.names (type_in n)
  formed_in g t n all y = formed g t (type_in n) all (annotated_is_typed d g t n y)
