-- The rules that run a map by vectors of four, one row each.
use Rattle.std.specs.Prelude.{ℕ, zero, suc, Bool, true, false, ◌&&◌, ◌||◌, List, [], ◌∷◌, Option, Some, None, pos, int_rem, slice_get}
use Rattle.size_arith.specs.declared.poly.Monomial.{Monomial}
use Rattle.size_arith.specs.Polynomial.{is_zero, IsPoly}
use Rattle.lift_tree.specs.declared.layout.Layout.TheVariants.{AsVector, AsScalar}
use Rattle.lift_tree.specs.declared.term.MapKind.TheVariants as map
use Rattle.lift_tree.specs.declared.term.UnaryForm.TheVariants as unary
use Rattle.lift_tree.specs.declared.term.BinaryForm.TheVariants as binary
use Rattle.lift_tree.specs.Tree.{Tree, Variable, Number, Unary, Binary, Map}
use Rattle.lift_tree.specs.Types.{PlainTy, U32, U32x4, PairOf, ArrayOf}
use Rattle.lift_tree.specs.Typing.{is_lane_operator}
use Rattle.lift_tree.specs.Annotations.{Annotation, Leaf, One, Two, Three, type_in}
use Rattle.rewriting.specs.declared.refused.Condition.{Condition}
use Rattle.rewriting.specs.declared.refused.Condition.TheVariants.{Divides, Lanes}
use Rattle.rewriting.specs.Around.{Around}
use Rattle.rewriting.specs.Answers.{Answer, Becomes, NoShape, NoSide}

-- ---- the body
-- u32
abbrev pub is_u32 : Option PlainTy → Bool
is_u32 (Some U32) = true
is_u32 _ = false

-- a map's body is made of its binder, other variables of type u32, numbers, and operators that act
-- lane by lane, where the binders around the map have these types
abbrev pub made_of_lanes : List PlainTy → Tree → Bool
made_of_lanes g (Variable zero) = true
made_of_lanes g (Variable (suc n)) = is_u32 (slice_get g n)
made_of_lanes g (Number n) = true
made_of_lanes g (Unary (unary.Div n) t) = made_of_lanes g t
made_of_lanes g (Unary (unary.Rem n) t) = made_of_lanes g t
made_of_lanes g (Binary (binary.Operator o) t u) =
    is_lane_operator o && (made_of_lanes g t && made_of_lanes g u)
made_of_lanes g _ = false

-- such a body names its binder
abbrev pub names_binder : Tree → Bool
names_binder (Variable zero) = true
names_binder (Unary f t) = names_binder t
names_binder (Binary f t u) = names_binder t || names_binder u
names_binder _ = false

-- ---- the array of a node, which is its first child
abbrev pub array_type : Annotation → PlainTy
array_type (Leaf a) = U32
array_type (One a n) = type_in n
array_type (Two a n m) = type_in n
array_type (Three a n m k) = type_in n

-- it holds numbers
abbrev pub holds_numbers : PlainTy → Bool
holds_numbers (ArrayOf U32 n) = true
holds_numbers _ = false

-- its length; 0 of what is none
abbrev pub length_in : PlainTy → List Monomial
length_in U32 = []
length_in U32x4 = []
length_in (PairOf a b) = []
length_in (ArrayOf a n) = n

-- the number divides the length exactly: it divides each coefficient
abbrev pub divides : ℕ → List Monomial → Bool
divides k [] = true
divides k (m ∷ n) = is_zero (int_rem m.coefficient (pos k)) && divides k n

-- ---- the rows
abbrev pub as_vector : Tree → Tree
as_vector xs = Unary (unary.Layout AsVector) xs

abbrev pub as_scalar : Tree → Tree
as_scalar xs = Unary (unary.Layout AsScalar) xs

-- the first of the conditions that is false
abbrev pub false_of : (lanes divides : Bool) → Option Condition
false_of true true = None
false_of true false = Some Divides
false_of false d = Some Lanes

-- the term, or the condition that is false
abbrev pub unless : Option Condition → Tree → Answer
unless None t = Becomes t
unless (Some c) t = NoSide c

-- what is false of a map that is to run by fours
abbrev pub false_side : Around → (body : Tree) → Option Condition
false_side a f =
    false_of
    (holds_numbers (array_type a.types) && (names_binder f && made_of_lanes a.binders f))
    (divides 4 (length_in (array_type a.types)))

-- map(\x. f, xs) becomes asScalar(map(\x. f, asVector(4, xs)))
abbrev pub by_fours : Around → Tree → Answer
by_fours a (Map map.Plain xs f) =
    unless (false_side a f) (as_scalar (Map map.Plain (as_vector xs) f))
by_fours a _ = NoShape

-- asVector(4, asScalar(xs)) becomes xs
abbrev pub vectors_again : Tree → Answer
vectors_again (Unary (unary.Layout AsVector) (Unary (unary.Layout AsScalar) xs)) = Becomes xs
vectors_again _ = NoShape

-- the numbers of an array of vectors
abbrev pub AreNumbers : Tree → Type 0
AreNumbers (Unary (unary.Layout AsScalar) t) = Unit {0}
AreNumbers _ = ⊥

-- the vectors of vectors' numbers
abbrev pub AreVectorsAgain : Tree → Type 0
AreVectorsAgain (Unary (unary.Layout AsVector) t) = AreNumbers t
AreVectorsAgain _ = ⊥

-- the type of the node below the one below
abbrev pub inner_type : Annotation → PlainTy
inner_type (One a (One b n)) = type_in n
inner_type _ = U32

-- where a type is an array's, its length is a polynomial
abbrev pub HasPolynomial : PlainTy → Type 0
HasPolynomial U32 = Unit {0}
HasPolynomial U32x4 = Unit {0}
HasPolynomial (PairOf a b) = Unit {0}
HasPolynomial (ArrayOf a n) = IsPoly n

-- so it is with the node's array, and with that of the node below
abbrev pub HasPolynomials : Around → Type 0
HasPolynomials a = HasPolynomial (array_type a.types) × HasPolynomial (inner_type a.types)
