use Rattle.std.proofs.Common.{◌+◌, ◌*◌}
use Rattle.lift_tree.specs.Tree.{nodes}
use Rattle.lowering.specs.Annotated.{tree_at}
use Rattle.lowering.proofs.lower.+lowering.Given as goal

abbrev pub decreases-boxed : goal.decreases-boxed
decreases-boxed l = 3 * nodes (tree_at l.node) + 1

abbrev pub decreases-lower_select : goal.decreases-lower_select
decreases-lower_select l =
    3 * (nodes (tree_at l.condition) + nodes (tree_at l.yes) + nodes (tree_at l.no)) + 2

abbrev pub decreases-lower_let : goal.decreases-lower_let
decreases-lower_let l = 3 * (nodes (tree_at l.value) + nodes (tree_at l.body)) + 2

abbrev pub decreases-lower_map : goal.decreases-lower_map
decreases-lower_map l = 3 * (nodes (tree_at l.array) + nodes (tree_at l.body)) + 2

abbrev pub decreases-lower_fold : goal.decreases-lower_fold
decreases-lower_fold l =
    3 * (nodes (tree_at l.array) + nodes (tree_at l.start) + nodes (tree_at l.body)) + 2

abbrev pub decreases-lower_at : goal.decreases-lower_at
decreases-lower_at l = 3 * nodes (tree_at l.node)
