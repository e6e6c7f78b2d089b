use Rattle.std.proofs.Common.{◌+◌, ◌*◌}
use Rattle.lift_tree.specs.Tree.{nodes, tree_of}
use Rattle.lowering.proofs.loads.+naming.Given as goal

abbrev pub decreases-named : goal.decreases-named
decreases-named l = 2 * nodes (tree_of l.term.now)

abbrev pub decreases-named_in_two : goal.decreases-named_in_two
decreases-named_in_two l = 2 * (nodes (tree_of l.first.now) + nodes (tree_of l.second.now)) + 1
