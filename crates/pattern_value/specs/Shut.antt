-- Definitions that stay shut, so that proofs see their arguments.
use Rattle.std.specs.Prelude.{ℕ, Bool, true, false, List, ◌∷◌, map}
use Rattle.scalar_ops.specs.declared.op.Reducer.{Reducer}
use Rattle.scalar_ops.specs.Operators.{combine}
use Rattle.lift_tree.specs.declared.value.Val.{Val}
use Rattle.lift_tree.specs.Lists.{fold_left}
use Rattle.lift_tree.specs.Meaning.{World, meaning}
use Rattle.lift_tree.specs.Tree.{Tree}
use Rattle.lift_tree.specs.Values.{Value, Word, More, value_of, word, members, nth}

-- the members of the rows at this number
abbrev pub column : ℕ → List Val → List Value
column n rows = map (λ row. nth (members (value_of row)) n) rows

-- a list with members
abbrev pub is_more : Value → Bool
is_more (More x xs) = true
is_more _ = false

-- a function of two numbers on those of two values
abbrev pub lane : (ℕ → ℕ → ℕ) → Value → Value → Value
lane f a b = Word (f (word a) (word b))

-- the body's value at each of a list
unfoldable pub map_under : World → List Value → Tree → List Value → List Value
map_under w vs b xs = map (λ x. meaning w (x ∷ vs) b) xs

-- the fold of a list by the body
unfoldable pub fold_under : World → List Value → Tree → Value → List Value → Value
fold_under w vs b a xs = fold_left (λ a x. meaning w (x ∷ a ∷ vs) b) a xs

-- the fold of a list by an operator
unfoldable pub fold_by : Reducer → Value → List Value → Value
fold_by r a xs = fold_left (λ a x. Word (combine r (word a) (word x))) a xs
