-- What a run leaves of a kernel's inputs.
use Rattle.std.specs.Prelude.{◌≡◌, ℕ, ◌<◌, false, List, length, slice_index}
use Rattle.kernel_tree.specs.declared.events.Event.{Event}
use Rattle.kernel_tree.specs.Code.{Input}
use Rattle.kernel_tree.specs.Launch.{Cells}
use Rattle.kernel_tree.specs.Device.{Device, Cell, State, row, run}
use Rattle.kernel_tree.specs.Faults.{Access, Among, accesses}

-- inputs are read alone, and hold what they held
pub record LeavesInputs (d : Device) (c : Cells) (s : State) (es : List Event) : Type 0 where
  pub reads : (a : Access) (n : ℕ) → Among a (accesses d s es) → a.cell.array ≡ Input n
      → a.writes ≡ false
  pub kept : (b : Cell) (n : ℕ) → b.array ≡ Input n → (run d s es).memory b ≡ s.memory b
  pub held : (n i : ℕ) → i < length (row c.ins n)
      → (run d s es).memory (record { array = Input n; home = 0; index = i })
      ≡ slice_index (row c.ins n) i
