use Rattle.lift_tree.specs.Tree.{nodes, tree_of}
use Rattle.output_owner.proofs.cells.+owner_along.Given as goal

abbrev pub decreases-owner_along : goal.decreases-owner_along
decreases-owner_along l = nodes (tree_of l.term.now)
