use Rattle.std.proofs.Common.{◌≡◌, ℕ, ◌<◌, ◌≤◌, length, Some}
use Rattle.std.specs.Prelude.{slice_get}
use Rattle.ndrange_machine.specs.ItemView.{ItemView}
use Rattle.ndrange_machine.proofs.machine.Machine.finished.Given as goal

-- the items so far have ended
abbrev pub invariant-loop-item : goal.invariant-loop-item
invariant-loop-item l = (j : ℕ) (it : ItemView) → j < l.item → slice_get l.self.items j ≡ Some it → length l.self.lines.items ≤ it.line
