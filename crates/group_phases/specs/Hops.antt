-- Forms of turns between which an item may do more than move, as long as it writes no cell that
-- others may reach: a nest whose outer turns load scalars before the inner form.
use Rattle.std.specs.Prelude.{◌≡◌, ℕ, suc, ◌<◌, ◌≤◌, List}
use Rattle.kernel_tree.specs.Formula.{Vars}
use Rattle.kernel_tree.specs.Code.{Code}
use Rattle.kernel_tree.specs.Launch.{Cells}
use Rattle.kernel_tree.specs.Item.{Item, item, Frame}
use Rattle.kernel_tree.specs.Device.{Device}
use Rattle.group_phases.specs.Bodies.{CanHop}
use Rattle.group_phases.specs.TurnForms.{Form}

-- the item stands before turn t, or past all turns, and this holds of its variables
pub record IsAtTurn (f : Form) (fs : List Frame) (rest : Code) (Begin : ℕ → Vars → Type 0)
    (Post : Vars → Type 0) (t : ℕ) (y : Item) : Type 0 where
  pub begun : t < f.count → (y ≡ item f.first (f.frames t) y.vars) × Begin t y.vars
  pub past : f.count ≤ t → (y ≡ item rest fs y.vars) × Post y.vars

-- the item takes the code turn by turn; of its variables `Pre` holds before, `Begin t` and `Done t`
-- where turn t begins and ends, and `Post` behind
pub record Hops (d : Device) (k : ℕ) (c : Cells) (fs : List Frame) (code rest : Code) (f : Form)
    (Pre : Vars → Type 0) (Begin Done : ℕ → Vars → Type 0) (Post : Vars → Type 0) : Type 0 where
  pub enters : (vars : Vars) → Pre vars
      → CanHop d k c (item code fs vars) (IsAtTurn f fs rest Begin Post 0)
  pub again : (t : ℕ) (vars : Vars) → t < f.count → Done t vars
      → CanHop d k c (item f.last (f.frames t) vars) (IsAtTurn f fs rest Begin Post (suc t))
