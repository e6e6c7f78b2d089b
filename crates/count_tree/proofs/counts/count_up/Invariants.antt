use Rattle.std.proofs.Common.{◌-◌, length}
use Rattle.count_tree.proofs.Fills.{Fills}
use Rattle.count_tree.proofs.counts.count_up.Given as goal

abbrev pub invariant-loop-level : goal.invariant-loop-level
invariant-loop-level l = Fills l.lefts l.flagged l.level l.width

abbrev pub decreases-loop-level : goal.decreases-loop-level
decreases-loop-level l = length l.fn.lefts - l.level
