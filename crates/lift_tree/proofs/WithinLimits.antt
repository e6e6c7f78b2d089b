-- Where what a term may name and its nodes pass no limit, neither does its type.
use Rattle.std.proofs.Common.{◌≡◌, ◌≤◌, List, [], ◌∷◌, sym, subst, arith, inl, inr}
use Rattle.std.specs.Prelude.{pos, ◌⊎◌}
use Rattle.size_arith.specs.declared.names.Name.{Name}
use Rattle.size_arith.specs.declared.poly.Monomial.{Monomial}
use Rattle.size_arith.specs.Polynomial.{minus, number, plus, quotient}
use Rattle.lift_tree.specs.declared.layout.Layout as layout
use Rattle.lift_tree.specs.declared.term.UnaryForm.{UnaryForm}
use Rattle.lift_tree.specs.declared.term.UnaryForm.TheVariants as unary
use Rattle.lift_tree.specs.declared.term.BinaryForm.{BinaryForm}
use Rattle.lift_tree.specs.declared.term.BinaryForm.TheVariants as binary
use Rattle.lift_tree.specs.Lists.{Every}
use Rattle.lift_tree.specs.Tree as tree
use Rattle.lift_tree.specs.Tree.{Tree}
use Rattle.lift_tree.specs.declared.term.Operator.{Operator}
use Rattle.lift_tree.specs.Types.{PlainTy, U32, U32x4, PairOf, ArrayOf, IsFormed}
use Rattle.lift_tree.specs.Limits.{arrays, HasFewScalars, LayoutFits, LengthsFit, NodesFit, OuterFits, TypeFits, UnaryFits}
use Rattle.lift_tree.specs.Typing.{BinaryRow, OperatorRow, constant, Declared, UnaryRow}
use Rattle.lift_tree.specs.Annotations.{Annotates, Annotation, Leaf, One, Three, Two, type_in}
use Rattle.lift_tree.proofs.EveryAt.{every_at}
use Rattle.lift_tree.proofs.Formed.{one_shown}
use Rattle.lift_tree.proofs.Layouts.{FormsAnew, layout_cases}
use Rattle.lift_tree.proofs.LengthsFit.{LengthFits, constant_fits, small_fits}

-- lengths are shown at least 1, and within their limits; not too many arrays stand in one another
pub record IsWithin (names : List Name) (a : PlainTy) : Type 0 where
  pub formed : IsFormed names a
  pub lengths : LengthsFit a
  pub few : arrays a ≤ 4

pub all_within : (names : List Name) (tys : List PlainTy) → Every (IsFormed names) tys → Every (TypeFits names) tys → Every (IsWithin names) tys
all_within names [] h k = tt
all_within names (a ∷ tys) h k = (record { formed = h.0; lengths = k.0.lengths; few = k.0.arrays }, all_within names tys h.1 k.1)

pub all_few : (names : List Name) (tys : List PlainTy) → Every (TypeFits names) tys → Every (HasFewScalars names) tys
all_few names [] h = tt
all_few names (a ∷ tys) h = (h.0.scalars, all_few names tys h.1)

pub outer_fits : (names : List Name) (x : PlainTy) (n : List Monomial) → IsWithin names (ArrayOf x n) → LengthFits n
outer_fits names x n h = record { terms = h.lengths.0; degree = h.lengths.1 }

pub element_within : (names : List Name) (a x : PlainTy) (n : List Monomial) → a ≡ ArrayOf x n → IsWithin names a → IsWithin names x
element_within names a x n e h =
    let g = subst (IsWithin names) e h in
    let f = g.few in
    record { formed = g.formed.1; lengths = g.lengths.2; few = omega (arith, f) }

module _ (d : Declared) (inputs : Every (IsWithin d.names) d.inputs) where
  abbrev Within : PlainTy → Type 0
  Within a = IsWithin d.names a

  of_number : (a : PlainTy) → a ≡ U32 → Within a
  of_number a e = subst Within (sym e) (record { formed = tt; lengths = tt; few = omega arith })

  of_vector : (a : PlainTy) → a ≡ U32x4 → Within a
  of_vector a e = subst Within (sym e) (record { formed = tt; lengths = tt; few = omega arith })

  -- an array that is formed
  array : (a x : PlainTy) (n : List Monomial) → a ≡ ArrayOf x n → IsFormed d.names (ArrayOf x n) → LengthFits n → LengthsFit x → arrays (ArrayOf x n) ≤ 4 → Within a
  array a x n e formed fits inner few = subst Within (sym e) (record { formed = formed; lengths = (fits.terms, fits.degree, inner); few = few })

  pair : (b c : PlainTy) → Within b → Within c → Within (PairOf b c)
  pair b c h k = let f = h.few in let g = k.few in record { formed = (h.formed, k.formed); lengths = (h.lengths, k.lengths); few = omega (arith, f, g) }

  of_layout : (l : layout.Layout) (b a : PlainTy) → (b ≡ a) ⊎ FormsAnew d.names l b a → LayoutFits d.names l b → Within b → Within a
  of_layout l b a (inl e) u h = subst Within e h
  of_layout l b a (inr r) u h = record {
    formed = r.formed;
    lengths = r.lengths u h.formed h.lengths;
    few = subst (λ z. arrays z ≤ 4) (sym r.is) (r.fits u).arrays;
  }

  of_unary : (f : UnaryForm) (b a : PlainTy) → UnaryRow d.names f b a → UnaryFits d.names f b → Within b → Within a
  of_unary (unary.Div k) b a r u h = subst Within (sym r.2) h
  of_unary (unary.Rem k) b a r u h = subst Within (sym r.2) h
  of_unary unary.First b a r u h = let g = subst Within r.1 h in let f = g.few in record { formed = g.formed.0; lengths = g.lengths.0; few = omega (arith, f) }
  of_unary unary.Second b a r u h = let g = subst Within r.1 h in let f = g.few in record { formed = g.formed.1; lengths = g.lengths.1; few = omega (arith, f) }
  of_unary (unary.Layout l) b a r u h = of_layout l b a (layout_cases d.names l b a r) u h
  of_unary (unary.Slide s t) b a r u h =
      let g = subst Within r.2 h in
      let fits = subst (UnaryFits d.names (unary.Slide s t)) r.2 u in
      let count = plus (quotient (number (pos t)) (minus r.1 (constant s))) (constant 1) in
      let inner = constant_fits s in
      array a (ArrayOf r.0 (constant s)) count r.6 (subst (IsFormed d.names) r.6 r.7) (small_fits count fits.2) (inner.terms, inner.degree, g.lengths.2) fits.3.arrays
  of_unary (unary.Pad l k) b a r u h =
      let g = subst Within r.2 h in
      let fits = subst (UnaryFits d.names (unary.Pad l k)) r.2 u in
      let count = plus (plus (constant l) r.1) (constant k) in
      array a r.0 count r.3 (subst (IsFormed d.names) r.3 r.4) (small_fits count fits.1) g.lengths.2 fits.2.arrays
  of_unary unary.ToLocal b a r u h = subst Within r h
  of_unary unary.ToPrivate b a r u h = subst Within r h
  of_unary unary.Then b a r u h = subst Within r h

  of_operator : (o : Operator) (b c a : PlainTy) → OperatorRow o b c a → Within a
  of_operator o U32 U32 a r = of_number a r
  of_operator o U32 U32x4 a r = of_vector a r.1
  of_operator o U32x4 U32 a r = of_vector a r.1
  of_operator o U32x4 U32x4 a r = of_vector a r.1
  of_operator o _ _ a r = absurd (assumption)

  of_binary : (f : BinaryForm) (b c a : PlainTy) → BinaryRow f b c a → OuterFits d.names a → Within b → Within c → Within a
  of_binary (binary.Operator o) b c a r u h k = of_operator o b c a r
  of_binary binary.Pair b c a r u h k = subst Within (sym r.2) (pair b c h k)
  of_binary binary.Zip b c a r u h k =
      let g = subst Within r.3 h in
      let x = pair r.0 r.1 (element_within d.names b r.0 r.2 r.3 h) (element_within d.names c r.1 r.2 r.4 k) in
      array a (PairOf r.0 r.1) r.2 r.5 (g.formed.0, x.formed) (outer_fits d.names r.0 r.2 g) x.lengths (subst (OuterFits d.names) r.5 u).arrays
  of_binary (binary.Reduce o) b c a r u h k =
      array a U32 (constant 1) r.3 (one_shown d.names, tt) (constant_fits 1) tt (subst (OuterFits d.names) r.3 u).arrays

  pub within_in : (g : List PlainTy) (t : Tree) (n : Annotation) → Every (IsWithin d.names) g → Annotates d g t n → NodesFit d.names t n → IsWithin d.names (type_in n)
  within_in g (tree.Variable v) (Leaf a) all y h = every_at (IsWithin d.names) g v a all y
  within_in g (tree.Number c) (Leaf a) all y h = of_number a y.1
  within_in g (tree.Input i) (Leaf a) all y h = every_at (IsWithin d.names) d.inputs i a inputs y
  within_in g (tree.Unary f t) (One a n) all y h = of_unary f (type_in n) a y.1 h.1 (within_in g t n all y.0 h.0)
  within_in g (tree.Binary f t u) (Two a n m) all y h = of_binary f (type_in n) (type_in m) a y.2 h.2 (within_in g t n all y.0 h.0) (within_in g u m all y.1 h.1)
  within_in g (tree.Select t u x) (Three a n m l) all y h = of_number a y.6
  within_in g (tree.Let v c) (Two a n m) all y h = subst (IsWithin d.names) (sym y.2) (within_in (type_in n ∷ g) c m (within_in g v n all y.0 h.0, all) y.1 h.1)
  within_in g (tree.Map j xs c) (Two a n m) all y h =
      let r = within_in g xs n all y.2 h.0 in
      let z = subst (IsWithin d.names) y.3 r in
      let q = within_in (y.0 ∷ g) c m (element_within d.names (type_in n) y.0 y.1 y.3 r, all) y.4 h.1 in
      array a (type_in m) y.1 y.5 (z.formed.0, q.formed) (outer_fits d.names y.0 y.1 z) q.lengths (subst (OuterFits d.names) y.5 h.2).arrays
  within_in g (tree.Fold j xs s c) (Three a n m l) all y h =
      let q = within_in g s m all y.4 h.1 in
      array a (type_in m) (constant 1) y.8 (one_shown d.names, q.formed) (constant_fits 1) q.lengths (subst (OuterFits d.names) y.8 h.3).arrays
  within_in g _ _ all y h = absurd y
