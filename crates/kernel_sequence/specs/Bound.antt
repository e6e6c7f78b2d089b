-- A `then` that a binder is around: no kernel of its own can make what
-- is another array in each turn.
use Rattle.std.specs.Prelude.{ℕ, Bool, true, List, [], ◌∷◌, Option, Some, None, if◌then◌else◌}
use Rattle.lift_tree.specs.declared.term.UnaryForm.TheVariants.{Then}
use Rattle.lift_tree.specs.Tree.{Tree, Variable, Number, Input, Unary, Binary, Select, Let, Map, Fold}

-- the place of a node of a child, seen from the parent
abbrev pub from_child : ℕ → Option (List ℕ) → Option (List ℕ)
from_child i (Some p) = Some (i ∷ p)
from_child i None = None

-- the first of two places, where there is one
abbrev pub first_of : Option (List ℕ) → Option (List ℕ) → Option (List ℕ)
first_of (Some p) o = Some p
first_of None o = o

-- the place of the first `then` in preorder that a binder is around; bound: one is around the whole
abbrev pub first_bound : (bound : Bool) → Tree → Option (List ℕ)
first_bound bound (Variable v) = None
first_bound bound (Number n) = None
first_bound bound (Input i) = None
first_bound bound (Unary Then t) = if bound then Some [] else from_child 0 (first_bound bound t)
first_bound bound (Unary f t) = from_child 0 (first_bound bound t)
first_bound bound (Binary f t u) =
    first_of (from_child 0 (first_bound bound t)) (from_child 1 (first_bound bound u))
first_bound bound (Select t u v) =
    first_of (from_child 0 (first_bound bound t))
    (first_of (from_child 1 (first_bound bound u)) (from_child 2 (first_bound bound v)))
first_bound bound (Let v b) =
    first_of (from_child 0 (first_bound bound v)) (from_child 1 (first_bound true b))
first_bound bound (Map k xs b) =
    first_of (from_child 0 (first_bound bound xs)) (from_child 1 (first_bound true b))
first_bound bound (Fold k xs s b) =
    first_of (from_child 0 (first_bound bound xs))
    (first_of (from_child 1 (first_bound bound s)) (from_child 2 (first_bound true b)))
