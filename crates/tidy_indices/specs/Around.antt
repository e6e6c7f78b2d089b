-- The statements that stand around a place in a kernel.
use Rattle.std.specs.Prelude.{◌≡◌, ℕ, ◌<◌, List, [], ◌∷◌, Some}
use Rattle.kernel_tree.specs.Formula.{Formula, Ids, bound_value}
use Rattle.kernel_tree.specs.Code.{Start, start_value}

-- a loop of this bound, or an `if` that asks whether this start is below this bound
pub data Around : Type 0 where
  InLoop : (bound : Formula) → Around
  InIf : (start : Start) → (bound : Formula) → Around

-- an item of these ids is in these statements, the outermost first, at these turns of the loops:
-- each turn is below the bound of its loop, and the start of each `if` below the bound of that
abbrev pub StandsIn : Ids → List Around → (turns : List ℕ) → Type 0
StandsIn ids [] [] = Unit {0}
StandsIn ids [] (t ∷ turns) = ⊥
StandsIn ids (InLoop b ∷ around) [] = ⊥
StandsIn ids (InLoop b ∷ around) (t ∷ turns) =
    (n : ℕ) × (bound_value ids.sizes b ≡ Some n) × (t < n) × StandsIn ids around turns
StandsIn ids (InIf s b ∷ around) turns =
    (n : ℕ) × (bound_value ids.sizes b ≡ Some n) × (start_value ids s < n)
    × StandsIn ids around turns
