-- Types and layouts of the source, whose lengths are polynomials, and at one launch.
use Rattle.std.specs.Prelude.{ℕ, List, [], ◌∷◌, ℤ, pos, negsuc, ◌^◌}
use Rattle.size_arith.specs.declared.poly.Monomial.{Monomial}
use Rattle.size_arith.specs.Polynomial.{value_at}
use Rattle.lift_tree.specs.declared.layout.Layout.TheVariants as layout
use Rattle.lift_tree.specs.declared.term.UnaryForm.{UnaryForm}
use Rattle.lift_tree.specs.declared.term.UnaryForm.TheVariants as unary
use Rattle.lift_tree.specs.Typing.{constant}
use Rattle.lift_tree.specs.Types as types
use Rattle.lift_tree.specs.Types.{PlainTy}
use Rattle.lift_ir.specs.Types.{Shape, Ty, Scalar, PairOf, ArrayOf, four}
use Rattle.lift_ir.specs.Layouts.{Layout, Split, Join, Transpose, Reverse, Slide, Pad}
use Rattle.lift_ir.specs.Terms.{push, no_type}

-- a whole number as a length; one below zero is too long to be any
abbrev pub natural : ℤ → ℕ
natural (pos n) = n
natural (negsuc n) = 2 ^ 32

-- a length where the base names have these values
abbrev pub length_at : List ℕ → List Monomial → ℕ
length_at ys n = natural (value_at ys n)

-- a type of the source
abbrev pub shape_of : PlainTy → Shape (List Monomial)
shape_of types.U32 = Scalar
shape_of types.U32x4 = ArrayOf (constant 4) Scalar
shape_of (types.PairOf a b) = PairOf (shape_of a) (shape_of b)
shape_of (types.ArrayOf a n) = ArrayOf n (shape_of a)

-- the same at a launch, where the base names have these values
abbrev pub ty_at : List ℕ → PlainTy → Ty
ty_at ys types.U32 = Scalar
ty_at ys types.U32x4 = four
ty_at ys (types.PairOf a b) = PairOf (ty_at ys a) (ty_at ys b)
ty_at ys (types.ArrayOf a n) = ArrayOf (length_at ys n) (ty_at ys a)

-- the length of an array's rows
abbrev pub inner_of : PlainTy → List Monomial
inner_of (types.ArrayOf (types.ArrayOf a m) n) = m
inner_of _ = []

-- the length of an array
abbrev pub outer_of : PlainTy → List Monomial
outer_of (types.ArrayOf a n) = n
outer_of _ = []

-- the layout of a form of type a over an operand of type b, its lengths polynomials; a default for a
-- stride, which is lowered to three layouts, and for forms that are none
abbrev pub layout_of : UnaryForm → (a b : PlainTy) → Layout (List Monomial)
layout_of (unary.Layout (layout.Split fs)) a b = Split (inner_of a)
layout_of (unary.Layout layout.Join) a b = Join (inner_of b)
layout_of (unary.Layout layout.Reverse) a b = Reverse (outer_of b)
layout_of (unary.Layout layout.AsVector) a b = Split (constant 4)
layout_of (unary.Layout layout.AsScalar) a b = Join (constant 4)
layout_of (unary.Layout layout.Transpose) a b = Transpose
layout_of (unary.Slide s t) a b = Slide s t
layout_of (unary.Pad l r) a b = Pad l r (outer_of b)
layout_of (unary.Layout (layout.Stride fs)) a b = Transpose
layout_of (unary.Div n) a b = Transpose
layout_of (unary.Rem n) a b = Transpose
layout_of unary.First a b = Transpose
layout_of unary.Second a b = Transpose
layout_of unary.ToLocal a b = Transpose
layout_of unary.ToPrivate a b = Transpose
layout_of unary.Then a b = Transpose

-- the binders' types at a launch
abbrev pub types_at : (bases : List ℕ) → List PlainTy → ℕ → Ty
types_at bases [] = no_type
types_at bases (a ∷ g) = push (ty_at bases a) (types_at bases g)
