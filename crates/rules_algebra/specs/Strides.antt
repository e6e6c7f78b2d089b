-- Rules on reverse and stride.
use Rattle.std.specs.Prelude.{Bool, false, ◌&&◌, List, [], ◌++◌, if◌then◌else◌}
use Rattle.rewriting.specs.declared.refused.Condition.TheVariants.{Same, Length}
use Rattle.rewriting.specs.Answers.{Answer, Becomes, NoShape, NoSide}
use Rattle.rewriting.specs.Around.{Around}
use Rattle.size_arith.specs.declared.names.Name.{Name}
use Rattle.size_arith.specs.declared.poly.Monomial.{Monomial}
use Rattle.size_arith.specs.Polynomial.{of_monomial, quotient}
use Rattle.size_arith.specs.Decisions.{all_divide, is_same, is_shown}
use Rattle.lift_tree.specs.declared.layout.Layout.TheVariants.{Join, Transpose, Split, Reverse, Stride}
use Rattle.lift_tree.specs.declared.length.Factor.{Factor}
use Rattle.lift_tree.specs.declared.term.MapKind.TheVariants.{Plain}
use Rattle.lift_tree.specs.declared.term.UnaryForm.TheVariants.{Layout}
use Rattle.lift_tree.specs.Tree.{Tree, Unary, Map}
use Rattle.lift_tree.specs.Types.{PlainTy, U32, U32x4, PairOf, ArrayOf}
use Rattle.lift_tree.specs.WorkedOut.{product_of}
use Rattle.lift_tree.specs.Annotations.{type_in}

-- reverse(reverse(xs)) becomes xs
abbrev pub reverse_reverse : Tree → Answer
reverse_reverse (Unary (Layout Reverse) (Unary (Layout Reverse) xs)) = Becomes xs
reverse_reverse _ = NoShape

-- map(\x. f, reverse(xs)) becomes reverse(map(\x. f, xs))
abbrev pub map_reverse : Tree → Answer
map_reverse (Map Plain (Unary (Layout Reverse) xs) f) =
    Becomes (Unary (Layout Reverse) (Map Plain xs f))
map_reverse _ = NoShape

-- map(\x. f, stride(m, xs)) becomes stride(m, map(\x. f, xs))
abbrev pub map_stride : Tree → Answer
map_stride (Map Plain (Unary (Layout (Stride m)) xs) f) =
    Becomes (Unary (Layout (Stride m)) (Map Plain xs f))
map_stride _ = NoShape

-- the factors of a stride
abbrev pub step_of : Tree → List Factor
step_of (Unary (Layout (Stride m)) xs) = m
step_of _ = []

-- the product of these factors, of whatever size, is the array's length
abbrev pub is_length : List Name → List Factor → PlainTy → Bool
is_length names fs U32 = false
is_length names fs U32x4 = false
is_length names fs (PairOf a b) = false
is_length names fs (ArrayOf a n) = is_same (of_monomial (product_of names fs)) n

-- stride(k, stride(m, xs)) becomes xs where k*m is the length of xs
abbrev pub stride_stride : Around → Tree → Answer
stride_stride a (Unary (Layout (Stride k)) (Unary (Layout (Stride m)) xs)) =
    if is_length a.names (k ++ m) (type_in a.types) then Becomes xs else NoSide Same
stride_stride a _ = NoShape

-- ---- lengths divided exactly
-- the monomial divides the length exactly, and the quotient is shown at least 1
abbrev pub is_divided : List Name → Monomial → List Monomial → Bool
is_divided names d n = all_divide d n && is_shown 1 names (quotient d n)

-- it divides the length of an array so
abbrev pub has_quotient : List Name → Monomial → PlainTy → Bool
has_quotient names d U32 = false
has_quotient names d U32x4 = false
has_quotient names d (PairOf a b) = false
has_quotient names d (ArrayOf a n) = is_divided names d n

-- stride(m, xs) becomes join(transpose(split(m, xs))) where n/m is shown at least 1
abbrev pub stride_layout : Around → Tree → Answer
stride_layout a (Unary (Layout (Stride m)) xs) =
    if has_quotient a.names (product_of a.names m) (type_in a.types)
    then Becomes (Unary (Layout Join) (Unary (Layout Transpose) (Unary (Layout (Split m)) xs)))
    else NoSide Length
stride_layout a _ = NoShape
