-- The indices and the bounds of a kernel, each within a limit, and those that spell index
-- expressions.
use Rattle.std.specs.Prelude.{◌≡◌, ◌≤◌, ℕ, List, [], ◌∷◌, Some}
use Rattle.size_arith.specs.declared.names.Name.{Name}
use Rattle.index_expr.specs.Expression.{Expression, short_nodes}
use Rattle.kernel_tree.specs.Formula.{Formula}
use Rattle.kernel_tree.specs.Code.{Statement, Loads, Stores, LoadsFour, StoresFour, Code, End, Performs, Loops, Guards}
use Rattle.index_simplify.specs.Simplified.{AreDeclared}
use Rattle.tidy_indices.specs.Reading.{reading}
use Rattle.tidy_indices.specs.Places.{ranges_outside}

-- the index of a load or a store, or the offset of four, and then these
abbrev pub index_then : Statement → (after : List Formula) → List Formula
index_then (Loads v a i) after = i ∷ after
index_then (Stores a i e) after = i ∷ after
index_then (LoadsFour v a i) after = i ∷ after
index_then (StoresFour a i e) after = i ∷ after
index_then s after = after

-- each index of a load or a store, each offset of four, and each bound of a loop or an `if`, in the
-- order of the statements, and then these
abbrev pub indices_then : Code → (after : List Formula) → List Formula
indices_then End after = after
indices_then (Performs s rest) after = index_then s (indices_then rest after)
indices_then (Loops s b c body rest) after = b ∷ indices_then body (indices_then rest after)
indices_then (Guards s b body rest) after = b ∷ indices_then body (indices_then rest after)

-- as many as there are limits, and it holds of each with its limit
abbrev pub EachWithin : (ℕ → Formula → Type 0) → (limits : List ℕ) → List Formula → Type 0
EachWithin P [] [] = Unit {0}
EachWithin P (n ∷ limits) (f ∷ fs) = P n f × EachWithin P limits fs
EachWithin P _ _ = ⊥

-- it spells an index expression of at most so many nodes, counted in short, in which sizes are
-- divided by the numbers alone that they are declared multiples of
pub record IsDeclaredIndex (names : List Name) (most : ℕ) (f : Formula) : Type 0 where
  pub expression : Expression
  pub spelled : reading f ≡ Some expression
  pub declared : AreDeclared (ranges_outside names) expression
  pub short : short_nodes expression ≤ most
