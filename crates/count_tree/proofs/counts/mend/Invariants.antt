use Rattle.count_tree.proofs.Mends.{Mends}
use Rattle.count_tree.proofs.counts.mend.Given as goal

abbrev pub invariant-loop-node : goal.invariant-loop-node
invariant-loop-node l = Mends l.flags l.lefts l.place l.node

abbrev pub decreases-loop-node : goal.decreases-loop-node
decreases-loop-node l = l.node
