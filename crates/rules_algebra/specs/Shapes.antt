-- The forms that rules look for, one over another.
use Rattle.std.specs.Prelude.{◌≡◌, zero, true, false, Option, MatchOption}
use Rattle.lift_tree.specs.declared.term.MapKind.TheVariants.{Plain}
use Rattle.lift_tree.specs.declared.term.FoldKind.TheVariants as fold
use Rattle.lift_tree.specs.declared.layout.Layout.TheVariants.{Join, Split, Transpose, Reverse, Stride}
use Rattle.lift_tree.specs.declared.term.UnaryForm.TheVariants.{Layout, Pad}
use Rattle.lift_tree.specs.declared.term.Term.{Term}
use Rattle.lift_tree.specs.Renumbering.{mentions}
use Rattle.size_arith.specs.Polynomial.{IsPoly}
use Rattle.lift_tree.specs.Types.{PlainTy, U32, U32x4, PairOf, ArrayOf}
use Rattle.rules_algebra.specs.Layouts.{without}
use Rattle.lift_tree.specs.Tree.{tree_of, Tree, Variable, Unary, Let, Map, Fold}

-- a map that no rule has said how to run
abbrev pub IsPlainMap : Tree → Type 0
IsPlainMap (Map Plain xs b) = Unit {0}
IsPlainMap _ = ⊥

-- a fold that no rule has said how to run
abbrev pub IsPlainFold : Tree → Type 0
IsPlainFold (Fold fold.Plain xs s b) = Unit {0}
IsPlainFold _ = ⊥

-- a let
abbrev pub IsLet : Tree → Type 0
IsLet (Let v b) = Unit {0}
IsLet _ = ⊥

-- a join
abbrev pub IsJoin : Tree → Type 0
IsJoin (Unary (Layout Join) t) = Unit {0}
IsJoin _ = ⊥

-- a split, into pieces of any length
abbrev pub IsSplit : Tree → Type 0
IsSplit (Unary (Layout (Split m)) t) = Unit {0}
IsSplit _ = ⊥

-- a transposition
abbrev pub IsTranspose : Tree → Type 0
IsTranspose (Unary (Layout Transpose) t) = Unit {0}
IsTranspose _ = ⊥

-- a reversal
abbrev pub IsReverse : Tree → Type 0
IsReverse (Unary (Layout Reverse) t) = Unit {0}
IsReverse _ = ⊥

-- a stride, by any factors
abbrev pub IsStride : Tree → Type 0
IsStride (Unary (Layout (Stride m)) t) = Unit {0}
IsStride _ = ⊥

-- a pad, of any widths
abbrev pub IsPad : Tree → Type 0
IsPad (Unary (Pad l r) t) = Unit {0}
IsPad _ = ⊥

-- the array that a form is over; the term itself where it has none
abbrev pub first_child : Tree → Tree
first_child (Unary f t) = t
first_child (Map k xs b) = xs
first_child (Fold k xs s b) = xs
first_child t = t

-- one form over another
abbrev pub Over : (outer inner : Tree → Type 0) → Tree → Type 0
Over outer inner t = outer t × inner (first_child t)

-- a map over each row, where the row is the nearest binder
abbrev pub IsRowMap : Tree → Type 0
IsRowMap (Map Plain (Variable zero) f) = Unit {0}
IsRowMap _ = ⊥

-- what a map does with each element; the term itself where it is no map
abbrev pub body : Tree → Tree
body (Map k xs b) = b
body t = t

-- a map of such maps over another form
abbrev pub MapsRowsOf : (Tree → Type 0) → Tree → Type 0
MapsRowsOf inner t = IsPlainMap t × inner (first_child t) × IsRowMap (body t)

-- the term for one binder fewer, the second nearest; none where it names that binder
abbrev pub IsLowered : Tree → Option Term → Type 0
IsLowered f o =
    MatchOption o (mentions 1 f ≡ true) (λ t. (mentions 1 f ≡ false) × (without 1 f ≡ tree_of t))

-- an array's length is a polynomial
abbrev pub HasPolynomial : PlainTy → Type 0
HasPolynomial U32 = Unit {0}
HasPolynomial U32x4 = Unit {0}
HasPolynomial (PairOf a b) = Unit {0}
HasPolynomial (ArrayOf a n) = IsPoly n
