use Rattle.count_tree.proofs.Fills.{Counted}
use Rattle.count_tree.proofs.counts.count_level.Given as goal

abbrev pub invariant-loop-number : goal.invariant-loop-number
invariant-loop-number l = Counted l.fn.lefts l.lefts l.flagged l.level l.width l.number
