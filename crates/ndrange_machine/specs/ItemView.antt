-- A work-item of the machine as contracts see it.
use Rattle.std.specs.Prelude.{◌≡◌, ℕ, List, Some, slice_get}
use Rattle.kernel_tree.specs.Formula.{Vars}
use Rattle.ndrange_machine.specs.declared.turn.Turn.{Turn}

-- where an item stands, the turns it is in, and its private variables
pub record ItemView : Type 0 where
  pub line : ℕ
  pub turns : List Turn  -- of the loops around it, outermost first
  pub room : ℕ  -- for the turns of so many loops
  pub vars : Vars

-- this holds of the j-th item, if there is one
abbrev pub OfItem : List ItemView → (j : ℕ) → (ItemView → Type 0) → Type 0
OfItem items j P = (it : ItemView) → slice_get items j ≡ Some it → P it
