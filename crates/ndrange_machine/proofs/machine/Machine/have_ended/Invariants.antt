use Rattle.std.proofs.Common.{◌≡◌, ℕ, ◌<◌, ◌≤◌, length, Some}
use Rattle.std.specs.Prelude.{slice_get}
use Rattle.kernel_tree.specs.Numbering.{member_at}
use Rattle.ndrange_machine.specs.ItemView.{ItemView}
use Rattle.ndrange_machine.proofs.machine.Machine.have_ended.Given as goal

-- the items so far have ended
abbrev pub invariant-loop-number : goal.invariant-loop-number
invariant-loop-number l = (j : ℕ) (a : ItemView) → j < l.number → slice_get l.self.items (member_at l.self.launch l.group j) ≡ Some a → length l.self.lines.items ≤ a.line
