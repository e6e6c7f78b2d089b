-- The rules that cut an array into pieces, and the one that makes a reduction a fold, a row each.
use Rattle.std.specs.Prelude.{ℕ, ◌+◌, ◌-◌, ◌%◌, Bool, ◌&&◌, nat_eq, nat_le, if◌then◌else◌, List, [], ◌∷◌, Option, Some, None}
use Rattle.scalar_ops.specs.declared.op.Reducer.{Reducer}
use Rattle.scalar_ops.specs.Operators.{neutral}
use Rattle.size_arith.specs.declared.poly.Monomial.{Monomial}
use Rattle.size_arith.specs.Polynomial.{minus}
use Rattle.size_arith.specs.Decisions.{is_shown}
use Rattle.lift_tree.specs.declared.length.Factor.TheVariants as factor
use Rattle.lift_tree.specs.declared.layout.Layout.TheVariants.{Join, Transpose, Split}
use Rattle.lift_tree.specs.declared.term.UnaryForm.TheVariants.{Layout, Slide}
use Rattle.lift_tree.specs.declared.term.BinaryForm.TheVariants.{Operator, Reduce}
use Rattle.lift_tree.specs.declared.term.Operator.TheVariants.{Regrouping}
use Rattle.lift_tree.specs.declared.term.MapKind.TheVariants as map
use Rattle.lift_tree.specs.declared.term.FoldKind.TheVariants as fold
use Rattle.lift_tree.specs.Tree.{Tree, Variable, Number, Unary, Binary, Map, Fold}
use Rattle.lift_tree.specs.Renumbering.{raise}
use Rattle.lift_tree.specs.Types.{PlainTy, U32, U32x4, PairOf, ArrayOf}
use Rattle.lift_tree.specs.Typing.{constant}
use Rattle.lift_tree.specs.Annotations.{Annotation, Leaf, One, Two, Three, type_in}
use Rattle.rewriting.specs.declared.refused.Condition.{Condition}
use Rattle.rewriting.specs.declared.refused.Condition.TheVariants.{Positive, Divides, Length}
use Rattle.rewriting.specs.Around.{Around}
use Rattle.rewriting.specs.Answers.{Answer, Becomes, NoShape, NoSide}
use Rattle.rules_split.specs.declared.rule.Rule.{Rule}
use Rattle.rules_split.specs.declared.rule.Rule.TheVariants as rule
use Rattle.rules_split.specs.Tests.{divides}

-- ---- conditions
-- a condition by its name, and whether it holds
pub record Side : Type 0 where
  pub name : Condition
  pub holds : Bool

-- the first condition that is false
abbrev pub first_false : List Side → Option Condition
first_false [] = None
first_false (s ∷ ss) = if s.holds then first_false ss else Some s.name

-- the term, or the condition that is false
abbrev pub unless : Option Condition → Tree → Answer
unless None t = Becomes t
unless (Some c) t = NoSide c

-- the term, unless a condition is false
abbrev pub under : List Side → Tree → Answer
under sides t = unless (first_false sides) t

-- ---- the length of the array, which is a node's first child; 0 where that is none
abbrev pub length_in : PlainTy → List Monomial
length_in U32 = []
length_in U32x4 = []
length_in (PairOf a b) = []
length_in (ArrayOf a n) = n

-- the same, by the types of the node and of all nodes below it
abbrev pub array_length : Annotation → List Monomial
array_length (Leaf a) = []
array_length (One a n) = length_in (type_in n)
array_length (Two a n m) = length_in (type_in n)
array_length (Three a n m k) = length_in (type_in n)

-- ---- what the rows give
-- split(k, xs)
abbrev pub in_pieces : ℕ → Tree → Tree
in_pieces k xs = Unary (Layout (Split (factor.Number k ∷ []))) xs

-- join(map(\r. body, rows))
abbrev pub joined : (rows body : Tree) → Tree
joined rows body = Unary (Layout Join) (Map map.Plain rows body)

-- join(map(\r. map(\x. f, r), rows))
abbrev pub mapped_by_rows : (rows f : Tree) → Tree
mapped_by_rows rows f = joined rows (Map map.Plain (Variable 0) (raise 1 f))

-- reduce(op, s, join(map(\r. reduce(op, e, r), rows))), where e is the operator's neutral element
abbrev pub reduced_by_rows : Reducer → (rows s : Tree) → Tree
reduced_by_rows r rows s =
    Binary (Reduce r) (joined rows (Binary (Reduce r) (Variable 0) (Number (neutral r)))) s

-- fold(\a x. op(a, x), s, xs)
abbrev pub folded : Reducer → (xs s : Tree) → Tree
folded r xs s = Fold fold.Plain xs s (Binary (Operator (Regrouping r)) (Variable 1) (Variable 0))

-- join(map(\w. slide(s, t, w), slide(u, v, xs)))
abbrev pub tiled : (s t u v : ℕ) → Tree → Tree
tiled s t u v xs = joined (Unary (Slide u v) xs) (Unary (Slide s t) (Variable 0))

-- the operator of a reduction
abbrev pub reducer_of : Tree → Option Reducer
reducer_of (Binary (Reduce r) xs s) = Some r
reducer_of t = None

-- ---- the rows
-- pieces of length k: k is at least 1, and divides n
abbrev pub piece_sides : ℕ → List Monomial → List Side
piece_sides k n =
    record { name = Positive; holds = nat_le 1 k } ∷ record { name = Divides; holds = divides k n }
    ∷ []

-- tiles of length u, which begin v elements apart: v is at least 1, t divides v, u is a number with
-- n - u shown at least 0, and v divides n - u
abbrev pub tile_sides : (t u v : ℕ) → Around → List Side
tile_sides t u v a =
    let n = array_length a.types in
    record { name = Positive; holds = nat_le 1 v }
    ∷ record { name = Divides; holds = nat_eq (v % t) 0 }
    ∷ record { name = Length; holds = nat_le u 4294967295 && is_shown u a.names n }
    ∷ record { name = Divides; holds = divides v (minus n (constant u)) }
    ∷ []

-- map(\x. f, xs) becomes join(map(\r. map(\x. f, r), split(k, xs)))
abbrev pub split_map : ℕ → Around → Tree → Answer
split_map k a (Map map.Plain xs f) =
    under (piece_sides k (array_length a.types)) (mapped_by_rows (in_pieces k xs) f)
split_map k a t = NoShape

-- reduce(op, s, xs) becomes a reduction of the reductions of its pieces of length k
abbrev pub split_reduce : ℕ → Around → Tree → Answer
split_reduce k a (Binary (Reduce r) xs s) =
    under (piece_sides k (array_length a.types)) (reduced_by_rows r (in_pieces k xs) s)
split_reduce k a t = NoShape

-- the same over the rows of the transposed pieces, where each row has elements k apart
abbrev pub stride_reduce : ℕ → Around → Tree → Answer
stride_reduce k a (Binary (Reduce r) xs s) =
    under (piece_sides k (array_length a.types))
    (reduced_by_rows r (Unary (Layout Transpose) (in_pieces k xs)) s)
stride_reduce k a t = NoShape

-- reduce(op, s, xs) becomes fold(\a x. op(a, x), s, xs)
abbrev pub reduce_fold : Tree → Answer
reduce_fold (Binary (Reduce r) xs s) = Becomes (folded r xs s)
reduce_fold t = NoShape

-- slide(s, t, xs) becomes the slides of its tiles, which begin v elements apart
abbrev pub tile_slide : ℕ → Around → Tree → Answer
tile_slide v a (Unary (Slide s t) xs) =
    let u = v + s - t in under (tile_sides t u v a) (tiled s t u v xs)
tile_slide v a t = NoShape

-- what the rule says of a term, which has this around it
abbrev pub answer : Rule → Around → Tree → Answer
answer (rule.SplitMap k) a t = split_map k a t
answer (rule.SplitReduce k) a t = split_reduce k a t
answer (rule.StrideReduce k) a t = stride_reduce k a t
answer rule.ReduceFold a t = reduce_fold t
answer (rule.TileSlide v) a t = tile_slide v a t
