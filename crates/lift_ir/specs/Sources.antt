-- Which term of the source a term is lowered from.
use Rattle.std.specs.Prelude.{◌≡◌, ℕ, ◌+◌, ◌<◌, ◌⊎◌, true, false, List}
use Rattle.scalar_ops.specs.declared.op.Op.TheVariants.{Div, Rem}
use Rattle.lift_tree.specs.declared.layout.Layout.TheVariants as layout
use Rattle.lift_tree.specs.declared.length.Factor.{Factor}
use Rattle.lift_tree.specs.declared.term.Operator.{Operator}
use Rattle.lift_tree.specs.declared.term.UnaryForm.TheVariants as unary
use Rattle.lift_tree.specs.declared.term.BinaryForm.TheVariants as binary
use Rattle.lift_tree.specs.declared.term.MapKind.{MapKind}
use Rattle.lift_tree.specs.declared.term.FoldKind.{FoldKind}
use Rattle.lift_tree.specs.Tree as tree
use Rattle.lift_tree.specs.Tree.{Tree}
use Rattle.lift_tree.specs.Meaning.{World, product_at, scalar_op}
use Rattle.lift_ir.specs.Layouts.{Layout, Split, Join, Transpose, Reverse, Slide, Pad}
use Rattle.lift_ir.specs.Terms.{LocalMemory, PrivateMemory, Term, Literal, Bound, Source, Apply, ApplyNumber, ApplyLanes, DivideLanes, Select, Both, Project, Reshape, LetArray, LetElement, Map, Fold, Store, Copy}

-- a join, also of vectors, or a stride, which is the join of its split's transposition
abbrev pub IsJoin : Tree → Tree → Type 0
IsJoin t u =
    (t ≡ tree.Unary (unary.Layout layout.Join) u)
    ⊎ (t ≡ tree.Unary (unary.Layout layout.AsScalar) u)
    ⊎
    ((fs : List Factor) × (x : Tree) × (t ≡ tree.Unary (unary.Layout (layout.Stride fs)) x)
    ×
    (u
    ≡ tree.Unary (unary.Layout layout.Transpose)
    (tree.Unary (unary.Layout (layout.Split fs)) x)))

module _ {A : Type 0} (num : A → ℕ) (w : World) where
  -- what a layout is lowered from; sizes are worked out
  abbrev pub IsLayout : Tree → Layout A → Tree → Type 0
  IsLayout t (Split m) u =
      ((fs : List Factor) × (t ≡ tree.Unary (unary.Layout (layout.Split fs)) u)
      × (product_at w.sizes fs ≡ num m))
      ⊎ ((t ≡ tree.Unary (unary.Layout layout.AsVector) u) × (num m ≡ 4))
  IsLayout t (Join m) u = IsJoin t u
  IsLayout t Transpose u = t ≡ tree.Unary (unary.Layout layout.Transpose) u
  IsLayout t (Reverse n) u = t ≡ tree.Unary (unary.Layout layout.Reverse) u
  IsLayout t (Slide a b) u = t ≡ tree.Unary (unary.Slide a b) u
  IsLayout t (Pad a b n) u = t ≡ tree.Unary (unary.Pad a b) u

  -- the lowered term is the source's, where so many binders and inputs are there
  abbrev pub Lowers : (binders inputs : ℕ) → Tree → Term A → Type 0
  Lowers n i t (Literal c) = t ≡ tree.Number c
  Lowers n i t (Bound v) = (t ≡ tree.Variable v) × (v < n)
  Lowers n i t (Source v) = (t ≡ tree.Input v) × (v < i)
  Lowers n i t (Apply o a b) =
      (p : Operator) × (x y : Tree) × (t ≡ tree.Binary (binary.Operator p) x y) × (scalar_op p ≡ o)
      × Lowers n i x a × Lowers n i y b
  Lowers n i t (ApplyNumber o m a) =
      (x : Tree)
      ×
      (((o ≡ Div) × (t ≡ tree.Unary (unary.Div m) x))
      ⊎ ((o ≡ Rem) × (t ≡ tree.Unary (unary.Rem m) x)))
      × Lowers n i x a
  Lowers n i t (ApplyLanes o l r a b) =
      (p : Operator) × (x y : Tree) × (t ≡ tree.Binary (binary.Operator p) x y) × (scalar_op p ≡ o)
      × Lowers n i x a × Lowers n i y b
  Lowers n i t (DivideLanes o m a) =
      (x : Tree)
      ×
      (((o ≡ Div) × (t ≡ tree.Unary (unary.Div m) x))
      ⊎ ((o ≡ Rem) × (t ≡ tree.Unary (unary.Rem m) x)))
      × Lowers n i x a
  Lowers n i t (Select c a b) =
      (x y z : Tree) × (t ≡ tree.Select x y z) × Lowers n i x c × Lowers n i y a × Lowers n i z b
  Lowers n i t (Both false a b) =
      (x y : Tree) × (t ≡ tree.Binary binary.Pair x y) × Lowers n i x a × Lowers n i y b
  Lowers n i t (Both true a b) =
      (x y : Tree) × (t ≡ tree.Binary binary.Zip x y) × Lowers n i x a × Lowers n i y b
  Lowers n i t (Project false a) = (x : Tree) × (t ≡ tree.Unary unary.First x) × Lowers n i x a
  Lowers n i t (Project true a) = (x : Tree) × (t ≡ tree.Unary unary.Second x) × Lowers n i x a
  Lowers n i t (Reshape l a) = (x : Tree) × IsLayout t l x × Lowers n i x a
  Lowers n i t (LetArray v b) =
      (x y : Tree) × (t ≡ tree.Let x y) × Lowers n i x v × Lowers (n + 1) i y b
  Lowers n i t (LetElement u v b) =
      (x y : Tree) × (t ≡ tree.Let x y) × Lowers n i x v × Lowers (n + 1) i y b
  Lowers n i t (Map k m loads xs b) =
      (j : MapKind) × (x y : Tree) × (t ≡ tree.Map j x y) × Lowers n i x xs × Lowers (n + 1) i y b
  Lowers n i t (Fold m loads u xs s b) =
      (j : FoldKind) × (x y z : Tree) × (t ≡ tree.Fold j x y z) × Lowers n i x xs × Lowers n i y s
      × Lowers (n + 2) i z b
  Lowers n i t (Store u a) = Lowers n i t a
  Lowers n i t (Copy LocalMemory u a) =
      (x : Tree) × (t ≡ tree.Unary unary.ToLocal x) × Lowers n i x a
  Lowers n i t (Copy PrivateMemory u a) =
      (x : Tree) × (t ≡ tree.Unary unary.ToPrivate x) × Lowers n i x a
