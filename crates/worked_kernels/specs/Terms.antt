-- Worked terms.
use Rattle.std.specs.Prelude.{◌≡◌, ℕ, ◌<◌, ◌^◌, true, false, List, [], Some, slice_get}
use Rattle.scalar_ops.specs.declared.op.Op.TheVariants.{Add}
use Rattle.scalar_ops.specs.declared.op.Reducer.TheVariants as reducer
use Rattle.size_arith.specs.declared.poly.Monomial.{Monomial}
use Rattle.lift_tree.specs.declared.term.Operator.TheVariants as operator
use Rattle.lift_tree.specs.declared.layout.Layout.TheVariants as layout
use Rattle.lift_tree.specs.declared.term.UnaryForm.TheVariants as unary
use Rattle.lift_tree.specs.declared.term.BinaryForm.TheVariants as binary
use Rattle.lift_tree.specs.declared.term.MapKind.TheVariants as map_kind
use Rattle.lift_tree.specs.declared.term.Level.TheVariants.{Launch}
use Rattle.lift_tree.specs.declared.term.Dimension.TheVariants.{X, Y}
use Rattle.lift_tree.specs.declared.term.FoldKind.{FoldKind}
use Rattle.lift_tree.specs.Tree as tree
use Rattle.lift_tree.specs.Tree.{Tree}
use Rattle.lift_tree.specs.Types as types
use Rattle.lift_tree.specs.Typing.{Declared, constant}
use Rattle.lift_tree.specs.Annotations.{Annotation, Leaf, One, Two, Three, Annotates}
use Rattle.lift_ir.specs.Types.{Scalar, ArrayOf, four}
use Rattle.lift_ir.specs.Layouts.{Split, Join}
use Rattle.lift_ir.specs.Terms.{Skip, Take, TakeFour, PrivateMemory, Over, Sequential, Literal, Bound, Source, Apply, ApplyLanes, Reshape, Map, Fold, Store, Copy}
use Rattle.lift_ir.specs.AtLaunch.{length_at}
use Rattle.lift_ir.specs.Lowering.{Written, Lowered, lower}
use Rattle.lift_ir.specs.Lowerable.{IsLowerable, IsStaged}

-- the one plus the other
abbrev pub sum : Tree → Tree → Tree
sum t u = tree.Binary (binary.Operator (operator.Regrouping reducer.Add)) t u

-- of a leaf that is a number
abbrev pub scalar : Annotation
scalar = Leaf types.U32

-- a typed term: what it is lowered to, and that it can be
pub record IsLoweredTo (d : Declared) (bases : List ℕ) (t : Tree) (a : Annotation)
    (u : Lowered) : Type 0 where
  pub same : lower d.names Written t a ≡ u
  pub nodes : Annotates d [] t a
  pub lowerable : IsLowerable bases Written t a
  pub staged : IsStaged Written t a

-- mapGlb(\x. x + 1, A)
abbrev pub increments : Tree
increments = tree.Map (map_kind.Over Launch X) (tree.Input 0) (sum (tree.Variable 0) (tree.Number 1))

-- the types of its nodes, where A has n elements
abbrev pub increments_types : List Monomial → Annotation
increments_types n =
    Two (types.ArrayOf types.U32 n) (Leaf (types.ArrayOf types.U32 n)) (Two types.U32 scalar scalar)

-- it is lowered to a map over the launch that adds 1 to each element
abbrev pub IncrementsAreLowered : Type 0
IncrementsAreLowered =
    (d : Declared) (bases : List ℕ) (n : List Monomial)
    → slice_get d.inputs 0 ≡ Some (types.ArrayOf types.U32 n) → length_at bases n < 2 ^ 31
    → IsLoweredTo d bases increments (increments_types n)
    (Map (Over Launch X) n Take (Source 0) (Store Scalar (Apply Add (Bound 0) (Literal 1))))

-- asScalar(mapGlb(\x. x + 1, asVector(4, A))), of 8 elements
abbrev pub four_increments : Tree
four_increments =
    tree.Unary (unary.Layout layout.AsScalar)
    (tree.Map (map_kind.Over Launch X) (tree.Unary (unary.Layout layout.AsVector) (tree.Input 0))
    (sum (tree.Variable 0) (tree.Number 1)))

-- the types of its nodes: two vectors of four
abbrev pub four_increments_types : Annotation
four_increments_types =
    let vectors = types.ArrayOf types.U32x4 (constant 2) in
    One (types.ArrayOf types.U32 (constant 8))
    (Two vectors (One vectors (Leaf (types.ArrayOf types.U32 (constant 8))))
    (Two types.U32x4 (Leaf types.U32x4) scalar))

-- it is lowered to a map that adds 1 to each lane of each row of four
abbrev pub FourIncrementsAreLowered : Type 0
FourIncrementsAreLowered =
    (d : Declared) (bases : List ℕ)
    → slice_get d.inputs 0 ≡ Some (types.ArrayOf types.U32 (constant 8))
    → IsLoweredTo d bases four_increments four_increments_types
    (Reshape (Join (constant 4))
    (Map (Over Launch X) (constant 2) TakeFour (Reshape (Split (constant 4)) (Source 0))
    (Store four (ApplyLanes Add true false (Bound 0) (Literal 1)))))

-- mapGlb1(\r. mapGlb(\x. x + 1, r), A)
abbrev pub row_increments : Tree
row_increments =
    tree.Map (map_kind.Over Launch Y) (tree.Input 0)
    (tree.Map (map_kind.Over Launch X) (tree.Variable 0) (sum (tree.Variable 0) (tree.Number 1)))

-- the types of its nodes, where A has n rows of m elements
abbrev pub row_increments_types : (n m : List Monomial) → Annotation
row_increments_types n m =
    let rows = types.ArrayOf (types.ArrayOf types.U32 m) n in
    Two rows (Leaf rows) (increments_types m)

-- it is lowered to a map over rows of the launch around one along a row, between which no scalar
-- is loaded
abbrev pub RowIncrementsAreLowered : Type 0
RowIncrementsAreLowered =
    (d : Declared) (bases : List ℕ) (n m : List Monomial)
    → slice_get d.inputs 0 ≡ Some (types.ArrayOf (types.ArrayOf types.U32 m) n)
    → length_at bases n < 2 ^ 31 → length_at bases m < 2 ^ 31
    → IsLoweredTo d bases row_increments (row_increments_types n m)
    (Map (Over Launch Y) n Skip (Source 0)
    (Map (Over Launch X) m Take (Bound 0) (Store Scalar (Apply Add (Bound 0) (Literal 1)))))

-- foldSeq(\a x. a + x, 0, toPrivate(mapSeq(\x. x + 1, A))), of 5 elements
abbrev pub five : List Monomial
five = constant 5

-- the copy that is folded
abbrev pub private_increments : Tree
private_increments =
    tree.Unary unary.ToPrivate
    (tree.Map map_kind.Sequential (tree.Input 0) (sum (tree.Variable 0) (tree.Number 1)))

-- the fold over it, of this kind
abbrev pub sums : FoldKind → Tree
sums k = tree.Fold k private_increments (tree.Number 0) (sum (tree.Variable 1) (tree.Variable 0))

-- the types of its nodes
abbrev pub sums_types : Annotation
sums_types =
    Three (types.ArrayOf types.U32 (constant 1))
    (One (types.ArrayOf types.U32 five) (increments_types five)) scalar
    (Two types.U32 scalar scalar)

-- a fold of either kind is lowered to the same term
abbrev pub SumsAreLowered : Type 0
SumsAreLowered =
    (d : Declared) (bases : List ℕ) (k : FoldKind)
    → slice_get d.inputs 0 ≡ Some (types.ArrayOf types.U32 five)
    → IsLoweredTo d bases (sums k) sums_types
    (Fold five Take Scalar
    (Copy PrivateMemory (ArrayOf 5 Scalar) (Map Sequential five Take (Source 0)
    (Store Scalar (Apply Add (Bound 0) (Literal 1))))) (Literal 0)
    (Apply Add (Bound 1) (Bound 0)))
