use Rattle.std.proofs.Common.{◌≡◌, ◌-◌, length}
use Rattle.count_tree.proofs.Sums.{ones}
use Rattle.count_tree.proofs.counts.set_first.Given as goal

abbrev pub invariant-loop-place : goal.invariant-loop-place
invariant-loop-place l = l.flags ≡ ones l.place (length l.fn.flags - l.place)
