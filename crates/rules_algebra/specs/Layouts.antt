-- Rules on join, split and transpose.
use Rattle.std.specs.Prelude.{ℕ, zero, ◌≡◌, Bool, false, Option, Some, None, List, if◌then◌else◌}
use Rattle.rewriting.specs.declared.refused.Condition.TheVariants.{Same, Mentions}
use Rattle.rewriting.specs.Answers.{Answer, Becomes, NoShape, NoSide}
use Rattle.rewriting.specs.Around.{Around, IsAround}
use Rattle.size_arith.specs.declared.poly.Monomial.{Monomial}
use Rattle.size_arith.specs.Polynomial.{of_monomial}
use Rattle.size_arith.specs.Decisions.{is_same}
use Rattle.lift_tree.specs.declared.term.MapKind.TheVariants.{Plain}
use Rattle.lift_tree.specs.declared.layout.Layout.TheVariants.{Join, Split, Transpose}
use Rattle.lift_tree.specs.declared.term.UnaryForm.TheVariants.{Layout}
use Rattle.lift_tree.specs.Tree.{Tree, Variable, Number, Unary, Map}
use Rattle.lift_tree.specs.Renumbering.{raise, put, mentions}
use Rattle.lift_tree.specs.Types.{PlainTy, ArrayOf}
use Rattle.lift_tree.specs.declared.length.Factor.{Factor}
use Rattle.lift_tree.specs.Typing.{Declared}
use Rattle.lift_tree.specs.WorkedOut.{product_of}
use Rattle.lift_tree.specs.Annotations.{Annotation, Leaf, One, Two, Three, type_in}

-- join(split(m, xs)) becomes xs
abbrev pub join_split : Tree → Answer
join_split (Unary (Layout Join) (Unary (Layout (Split m)) xs)) = Becomes xs
join_split _ = NoShape

-- the length of the rows of an array of arrays
abbrev pub row_length : PlainTy → Option (List Monomial)
row_length (ArrayOf (ArrayOf a m) n) = Some m
row_length _ = None

-- both are there, and are the same at all sizes
abbrev pub same_lengths : Option (List Monomial) → Option (List Monomial) → Bool
same_lengths (Some m) (Some n) = is_same m n
same_lengths (Some m) None = false
same_lengths None n = false

-- the types of the only child
abbrev pub child : Annotation → Annotation
child (Leaf a) = Leaf a
child (One a n) = n
child (Two a n m) = Two a n m
child (Three a n m k) = Three a n m k

-- split(m, join(xs)) becomes xs where the inner length of xs is m,
-- which is the length of the pieces
abbrev pub split_join : Around → Tree → Answer
split_join a (Unary (Layout (Split m)) (Unary (Layout Join) xs)) =
    if same_lengths (row_length (type_in (child (child a.types)))) (row_length (type_in a.types))
    then Becomes xs else NoSide Same
split_join a _ = NoShape

-- the pieces of a typed split are as long as it says
abbrev pub PiecesHaveTheirLength : Type 0
PiecesHaveTheirLength =
    (d : Declared) (a : Around) (m : List Factor) (xs : Tree)
    → IsAround d a (Unary (Layout (Split m)) xs)
    → row_length (type_in a.types) ≡ Some (of_monomial (product_of a.names m))

-- transpose(transpose(xs)) becomes xs
abbrev pub transpose_transpose : Tree → Answer
transpose_transpose (Unary (Layout Transpose) (Unary (Layout Transpose) xs)) = Becomes xs
transpose_transpose _ = NoShape

-- map(\x. f, join(xs)) becomes join(map(\r. map(\x. f, r), xs))
abbrev pub map_join : Tree → Answer
map_join (Map Plain (Unary (Layout Join) xs) f) =
    Becomes (Unary (Layout Join) (Map Plain xs (Map Plain (Variable 0) (raise 1 f))))
map_join _ = NoShape

-- the term for one binder fewer at k, which it doesn't name, so that any value may stand there
abbrev pub without : ℕ → Tree → Tree
without k t = put k (Number 0) t

-- map(\r. map(\x. f, r), split(m, xs)) becomes split(m, map(\x. f, xs)) where f hasn't r
abbrev pub map_split : Tree → Answer
map_split (Map Plain (Unary (Layout (Split m)) xs) (Map Plain (Variable zero) f)) =
    if mentions 1 f then NoSide Mentions else Becomes
    (Unary (Layout (Split m)) (Map Plain xs (without 1 f)))
map_split _ = NoShape

-- map(\r. map(\x. f, r), transpose(xs)) becomes transpose(map(\r.
-- map(\x. f, r), xs)) where f hasn't r
abbrev pub map_transpose : Tree → Answer
map_transpose (Map Plain (Unary (Layout Transpose) xs) (Map Plain (Variable zero) f)) =
    if mentions 1 f then NoSide Mentions
    else Becomes (Unary (Layout Transpose) (Map Plain xs (Map Plain (Variable 0) f)))
map_transpose _ = NoShape
