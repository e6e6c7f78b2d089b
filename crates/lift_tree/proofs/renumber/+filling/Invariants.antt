use Rattle.std.proofs.Common.{◌+◌, ◌*◌}
use Rattle.lift_tree.specs.Tree.{tree_of, nodes}
use Rattle.lift_tree.proofs.renumber.+filling.Given as goal

-- a term counts after its children
abbrev pub decreases-fill : goal.decreases-fill
decreases-fill l = 3 * nodes (tree_of l.term.now)

abbrev pub decreases-fill_two : goal.decreases-fill_two
decreases-fill_two l = 3 * (nodes (tree_of l.a.now) + nodes (tree_of l.b.now)) + 1

abbrev pub decreases-fill_three : goal.decreases-fill_three
decreases-fill_three l = 3 * (nodes (tree_of l.a.now) + nodes (tree_of l.b.now) + nodes (tree_of l.c.now)) + 2
