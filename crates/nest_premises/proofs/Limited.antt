-- Each node of a term within the limits on types has few scalars.
use Rattle.std.proofs.Common.{◌≡◌, ℕ, ◌*◌, ◌<◌, ◌≤◌, ◌^◌, List, [], ◌∷◌, sym, subst, arith, inl, inr}
use Rattle.std.specs.Prelude.{◌⊎◌}
use Rattle.std.proofs.lemmas.Nat.{mul-le}
use Rattle.size_arith.specs.declared.poly.Monomial.{Monomial}
use Rattle.size_arith.specs.Ranges.{Admissible}
use Rattle.lift_tree.specs.declared.layout.Layout as layout
use Rattle.lift_tree.specs.declared.term.Operator.{Operator}
use Rattle.lift_tree.specs.declared.term.UnaryForm.{UnaryForm}
use Rattle.lift_tree.specs.declared.term.UnaryForm.TheVariants as unary
use Rattle.lift_tree.specs.declared.term.BinaryForm.{BinaryForm}
use Rattle.lift_tree.specs.declared.term.BinaryForm.TheVariants as binary
use Rattle.lift_tree.specs.Lists.{Every}
use Rattle.lift_tree.specs.Tree as tree
use Rattle.lift_tree.specs.Tree.{Tree}
use Rattle.lift_tree.specs.Types as types
use Rattle.lift_tree.specs.Types.{PlainTy, IsFormed}
use Rattle.lift_tree.specs.Limits.{ArrayFits, OuterFits, HasFewScalars, LayoutFits, UnaryFits, NodesFit}
use Rattle.lift_tree.specs.Typing.{Declared, IsDeclared, OperatorRow, UnaryRow, BinaryRow}
use Rattle.lift_tree.specs.Annotations.{Annotation, Leaf, One, Two, Three, type_in, Annotates}
use Rattle.lift_tree.proofs.EveryAt.{every_at}
use Rattle.lift_tree.proofs.Formed.{formed_in}
use Rattle.lift_tree.proofs.Layouts.{FormsAnew, layout_cases}
use Rattle.lift_ir.specs.Types.{IsShort, size}
use Rattle.lift_ir.specs.AtLaunch.{length_at, ty_at}
use Rattle.lowered_tree.specs.Words.{FormHasWords, FormsHaveWords}
use Rattle.nest_premises.proofs.Fits.{FormFits, Fits}
use Rattle.nest_premises.proofs.Few.{Few, fewer, short_of, size_of, few_of}

module _ (d : Declared) (declared : IsDeclared d) (scalars : Every (HasFewScalars d.names) d.inputs) (bases : List ℕ) (ok : Admissible d.names bases) where
  abbrev pub IsFew : PlainTy → Type 0
  IsFew a = Few d bases declared.names ok a

  pub few_all : (tys : List PlainTy) → Every (IsFormed d.names) tys → Every (HasFewScalars d.names) tys → Every IsFew tys
  few_all [] h k = tt
  few_all (a ∷ tys) h k = (few_of d bases declared.names ok a h.0 k.0, few_all tys h.1 k.1)

  pub short : (a : PlainTy) → IsFew a → IsShort (ty_at bases a)
  short a h = short_of 1 (ty_at bases a) (omega arith) h

  pub small : (a : PlainTy) → IsFew a → size (ty_at bases a) < 2 ^ 31
  small a h =
      let c = size_of 1 (ty_at bases a) h in
      let e : 1 * size (ty_at bases a) ≡ size (ty_at bases a) = omega arith in
      omega (arith, c, e)

  element : (a x : PlainTy) (l : List Monomial) → a ≡ types.ArrayOf x l → IsFew a → IsFew x
  element a x l e h =
      let k = subst IsFew e h in
      let s : 1 * 1 ≤ 1 * length_at bases l = mul-le 1 1 1 (length_at bases l) (omega arith) k.0 in
      fewer 1 (1 * length_at bases l) (ty_at bases x) (omega (arith, s)) k.1

  number : (a : PlainTy) → a ≡ types.U32 → IsFew a
  number a e = subst IsFew (sym e) (omega arith)

  -- an array that is formed
  formed_few : (a x : PlainTy) (l : List Monomial) → a ≡ types.ArrayOf x l → IsFormed d.names a → ArrayFits d.names x l → IsFew a
  formed_few a x l e f h = subst IsFew (sym e) (few_of d bases declared.names ok (types.ArrayOf x l) (subst (IsFormed d.names) e f) h.scalars)

  outer : (a x : PlainTy) (l : List Monomial) → a ≡ types.ArrayOf x l → IsFormed d.names a → OuterFits d.names a → IsFew a
  outer a x l e f h = formed_few a x l e f (subst (OuterFits d.names) e h)

  layout_few : (l : layout.Layout) (b a : PlainTy) → (b ≡ a) ⊎ FormsAnew d.names l b a → LayoutFits d.names l b → IsFew b → IsFew a
  layout_few l b a (inl e) u h = subst IsFew e h
  layout_few l b a (inr r) u h = formed_few a r.element r.length r.is r.formed (r.fits u)

  unary_few : (f : UnaryForm) (b a : PlainTy) → UnaryRow d.names f b a → UnaryFits d.names f b → IsFormed d.names a → IsFew b → IsFew a
  unary_few (unary.Div n) b a r u f h = subst IsFew (sym r.2) h
  unary_few (unary.Rem n) b a r u f h = subst IsFew (sym r.2) h
  unary_few unary.First b a r u f h = (subst IsFew r.1 h).0
  unary_few unary.Second b a r u f h = (subst IsFew r.1 h).1
  unary_few (unary.Layout l) b a r u f h = layout_few l b a (layout_cases d.names l b a r) u h
  unary_few (unary.Slide s t) b a r u f h = formed_few a _ _ r.6 f (subst (UnaryFits d.names (unary.Slide s t)) r.2 u).3
  unary_few (unary.Pad l k) b a r u f h = formed_few a _ _ r.3 f (subst (UnaryFits d.names (unary.Pad l k)) r.2 u).2
  unary_few unary.ToLocal b a r u f h = subst IsFew r h
  unary_few unary.ToPrivate b a r u f h = subst IsFew r h
  unary_few unary.Then b a r u f h = subst IsFew r h

  operator_few : (o : Operator) (b c a : PlainTy) → OperatorRow o b c a → IsFew b → IsFew c → IsFew a
  operator_few o types.U32 types.U32 a r h k = subst IsFew (sym r) h
  operator_few o types.U32 types.U32x4 a r h k = subst IsFew (sym r.1) k
  operator_few o types.U32x4 types.U32 a r h k = subst IsFew (sym r.1) h
  operator_few o types.U32x4 types.U32x4 a r h k = subst IsFew (sym r.1) h
  operator_few o _ _ a r h k = absurd (assumption)

  binary_few : (f : BinaryForm) (b c a : PlainTy) → BinaryRow f b c a → OuterFits d.names a → IsFormed d.names a → IsFew b → IsFew c → IsFew a
  binary_few (binary.Operator o) b c a r u f h k = operator_few o b c a r h k
  binary_few binary.Pair b c a r u f h k = subst IsFew (sym r.2) (h, k)
  binary_few binary.Zip b c a r u f h k = outer a _ _ r.5 f u
  binary_few (binary.Reduce o) b c a r u f h k = outer a _ _ r.3 f u

  form_fits : (f : UnaryForm) (a : PlainTy) → FormHasWords f → IsFew a → FormFits bases f a
  form_fits (unary.Div n) a s h = tt
  form_fits (unary.Rem n) a s h = tt
  form_fits unary.First a s h = tt
  form_fits unary.Second a s h = tt
  form_fits (unary.Layout l) a s h = tt
  form_fits (unary.Slide m t) a s h = s
  form_fits (unary.Pad l r) a s h = tt
  form_fits unary.ToLocal a s h = small a h
  form_fits unary.ToPrivate a s h = small a h
  form_fits unary.Then a s h = tt

  pub fits_in : (g : List PlainTy) (t : Tree) (n : Annotation) → Every (IsFormed d.names) g → Every IsFew g → Annotates d g t n → NodesFit d.names t n → FormsHaveWords t → Fits bases t n × IsFew (type_in n)
  fits_in g (tree.Variable v) (Leaf a) all few y h s = let b = every_at IsFew g v a few y in (short a b, b)
  fits_in g (tree.Number v) (Leaf a) all few y h s = let b = number a y.1 in (short a b, b)
  fits_in g (tree.Input i) (Leaf a) all few y h s = let b = every_at IsFew d.inputs i a (few_all d.inputs declared.inputs scalars) y in (short a b, b)
  fits_in g (tree.Unary f t) (One a n) all few y h s =
      let r = fits_in g t n all few y.0 h.0 s.1 in
      let b = unary_few f (type_in n) a y.1 h.1 (formed_in d declared.inputs g (tree.Unary f t) (One a n) all y) r.1 in
      ((short a b, form_fits f a s.0 b, r.0), b)
  fits_in g (tree.Binary f t u) (Two a n m) all few y h s =
      let r = fits_in g t n all few y.0 h.0 s.0 in
      let q = fits_in g u m all few y.1 h.1 s.1 in
      let b = binary_few f (type_in n) (type_in m) a y.2 h.2 (formed_in d declared.inputs g (tree.Binary f t u) (Two a n m) all y) r.1 q.1 in
      ((short a b, r.0, q.0), b)
  fits_in g (tree.Select t u x) (Three a n m l) all few y h s =
      let b = number a y.6 in
      ((short a b, (fits_in g t n all few y.0 h.0 s.0).0, (fits_in g u m all few y.1 h.1 s.1).0, (fits_in g x l all few y.2 h.2 s.2).0), b)
  fits_in g (tree.Let v c) (Two a n m) all few y h s =
      let r = fits_in g v n all few y.0 h.0 s.0 in
      let q = fits_in (type_in n ∷ g) c m (formed_in d declared.inputs g v n all y.0, all) (r.1, few) y.1 h.1 s.1 in
      let b = subst IsFew (sym y.2) q.1 in
      ((short a b, r.0, q.0), b)
  fits_in g (tree.Map j xs c) (Two a n m) all few y h s =
      let r = fits_in g xs n all few y.2 h.0 s.0 in
      let x = subst (IsFormed d.names) y.3 (formed_in d declared.inputs g xs n all y.2) in
      let q = fits_in (y.0 ∷ g) c m (x.1, all) (element (type_in n) y.0 y.1 y.3 r.1, few) y.4 h.1 s.1 in
      let b = outer a _ _ y.5 (formed_in d declared.inputs g (tree.Map j xs c) (Two a n m) all y) h.2 in
      ((short a b, r.0, q.0), b)
  fits_in g (tree.Fold j xs z c) (Three a n m l) all few y h s =
      let r = fits_in g xs n all few y.2 h.0 s.0 in
      let p = fits_in g z m all few y.4 h.1 s.1 in
      let x = subst (IsFormed d.names) y.3 (formed_in d declared.inputs g xs n all y.2) in
      let q = fits_in (y.0 ∷ type_in m ∷ g) c l (x.1, (formed_in d declared.inputs g z m all y.4, all)) (element (type_in n) y.0 y.1 y.3 r.1, (p.1, few)) y.6 h.2 s.2 in
      let b = outer a _ _ y.8 (formed_in d declared.inputs g (tree.Fold j xs z c) (Three a n m l) all y) h.3 in
      ((short a b, r.0, p.0, q.0), b)
  fits_in g _ _ all few y h s = absurd y
