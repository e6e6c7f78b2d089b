use Rattle.std.proofs.Common.{◌+◌, ◌*◌}
use Rattle.lift_tree.specs.Tree.{tree_of, nodes}
use Rattle.lift_tree.proofs.term.+copying.Given as goal

-- a term counts after its children
abbrev pub decreases-Term::copy : goal.decreases-Term::copy
decreases-Term::copy l = 3 * nodes (tree_of l.self.now)

abbrev pub decreases-copied_child : goal.decreases-copied_child
decreases-copied_child l = 3 * nodes (tree_of l.child.now) + 1

abbrev pub decreases-copied_unary : goal.decreases-copied_unary
decreases-copied_unary l = 3 * nodes (tree_of l.a.now) + 2

abbrev pub decreases-copied_binary : goal.decreases-copied_binary
decreases-copied_binary l = 3 * (nodes (tree_of l.a.now) + nodes (tree_of l.b.now)) + 2

abbrev pub decreases-copied_select : goal.decreases-copied_select
decreases-copied_select l = 3 * (nodes (tree_of l.a.now) + nodes (tree_of l.b.now) + nodes (tree_of l.c.now)) + 2

abbrev pub decreases-copied_let : goal.decreases-copied_let
decreases-copied_let l = 3 * (nodes (tree_of l.value.now) + nodes (tree_of l.body.now)) + 2

abbrev pub decreases-copied_map : goal.decreases-copied_map
decreases-copied_map l = 3 * (nodes (tree_of l.array.now) + nodes (tree_of l.body.now)) + 2

abbrev pub decreases-copied_fold : goal.decreases-copied_fold
decreases-copied_fold l = 3 * (nodes (tree_of l.array.now) + nodes (tree_of l.start.now) + nodes (tree_of l.body.now)) + 2
