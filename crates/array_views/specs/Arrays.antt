-- Arrays of a kind, and types whose lengths are index expressions.
use Rattle.std.specs.Prelude.{ℕ}
use Rattle.kernel_tree.specs.Code as code
use Rattle.kernel_tree.specs.Code.{Array}
use Rattle.lift_ir.specs.Types.{Shape, Scalar, PairOf, ArrayOf}
use Rattle.index_expr.specs.Expression.{Expression, expression_of}
use Rattle.array_views.specs.declared.array.ArrayKind.{ArrayKind}
use Rattle.array_views.specs.declared.array.ArrayKind.TheVariants as kind
use Rattle.array_views.specs.declared.extent.Extent.{Extent}
use Rattle.array_views.specs.declared.extent.Extent as extent

-- the array of this kind and number
abbrev pub array_with : ArrayKind → ℕ → Array
array_with kind.Input n = code.Input n
array_with kind.Output n = code.Output n
array_with kind.Local n = code.Local n
array_with kind.Private n = code.Private n

-- the type that an extent stands for
abbrev pub extent_of : Extent → Shape Expression
extent_of extent.Scalar = Scalar
extent_of (extent.Pair' p a q b) = PairOf (extent_of a) (extent_of b)
extent_of (extent.Array' n p a) = ArrayOf (expression_of n) (extent_of a)

-- a type whose lengths are spelled so
abbrev pub spelled_shape : {A : Type 0} → (A → Expression) → Shape A → Shape Expression
spelled_shape spell Scalar = Scalar
spelled_shape spell (PairOf a b) = PairOf (spelled_shape spell a) (spelled_shape spell b)
spelled_shape spell (ArrayOf n t) = ArrayOf (spell n) (spelled_shape spell t)
