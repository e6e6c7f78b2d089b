use Rattle.lift_tree.specs.Tree.{nodes, tree_of}
use Rattle.output_owner.proofs.cells.+local_along.Given as goal

abbrev pub decreases-local_along : goal.decreases-local_along
decreases-local_along l = nodes (tree_of l.term.now)
