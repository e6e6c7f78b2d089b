use Rattle.std.proofs.Common.{◌≡◌, ◌++◌, drop, ◌≤◌, length}
use Rattle.readings.proofs.owed.owe.Given as goal

abbrev pub invariant-loop-left : goal.invariant-loop-left
invariant-loop-left g l = (l.owed.items ≡ drop l.left l.alternative ++ l.fn.owed.items) × (l.left ≤ length l.alternative)

abbrev pub decreases-loop-left : goal.decreases-loop-left
decreases-loop-left g l = l.left
