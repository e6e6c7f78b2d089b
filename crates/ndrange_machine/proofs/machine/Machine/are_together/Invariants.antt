use Rattle.std.proofs.Common.{◌≡◌, ℕ, ◌<◌, Some}
use Rattle.std.specs.Prelude.{slice_get}
use Rattle.kernel_tree.specs.Launch.{first_item}
use Rattle.kernel_tree.specs.Numbering.{member_at}
use Rattle.ndrange_machine.specs.Groups.{SamePlace}
use Rattle.ndrange_machine.specs.ItemView.{ItemView}
use Rattle.ndrange_machine.proofs.machine.Machine.are_together.Given as goal

-- the items so far stand with the first
abbrev pub invariant-loop-number : goal.invariant-loop-number
invariant-loop-number l = (j : ℕ) (a b : ItemView) → j < l.number → slice_get l.self.items (first_item l.self.launch l.group) ≡ Some a → slice_get l.self.items (member_at l.self.launch l.group j) ≡ Some b → SamePlace a b
