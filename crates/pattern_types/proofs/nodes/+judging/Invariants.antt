use Rattle.std.proofs.Common.{◌+◌, ◌*◌}
use Rattle.lift_tree.specs.Tree.{tree_of, nodes}
use Rattle.pattern_types.proofs.nodes.+judging.Given as goal

-- a term counts after its children
abbrev pub decreases-judge : goal.decreases-judge
decreases-judge l = 5 * nodes (tree_of l.term.now)

abbrev pub decreases-judge_child : goal.decreases-judge_child
decreases-judge_child l = 5 * nodes (tree_of l.term.now) + 1

abbrev pub decreases-judge_under : goal.decreases-judge_under
decreases-judge_under l = 5 * nodes (tree_of l.term.now) + 2

abbrev pub decreases-judge_under_two : goal.decreases-judge_under_two
decreases-judge_under_two l = 5 * nodes (tree_of l.term.now) + 3

abbrev pub decreases-judge_binary : goal.decreases-judge_binary
decreases-judge_binary l = 5 * (nodes (tree_of l.a.now) + nodes (tree_of l.b.now)) + 4

abbrev pub decreases-judge_select : goal.decreases-judge_select
decreases-judge_select l = 5 * (nodes (tree_of l.a.now) + nodes (tree_of l.b.now) + nodes (tree_of l.c.now)) + 4

abbrev pub decreases-judge_let : goal.decreases-judge_let
decreases-judge_let l = 5 * (nodes (tree_of l.value.now) + nodes (tree_of l.body.now)) + 4

abbrev pub decreases-judge_map : goal.decreases-judge_map
decreases-judge_map l = 5 * (nodes (tree_of l.array.now) + nodes (tree_of l.body.now)) + 4

abbrev pub decreases-judge_fold : goal.decreases-judge_fold
decreases-judge_fold l = 5 * (nodes (tree_of l.array.now) + nodes (tree_of l.start.now) + nodes (tree_of l.body.now)) + 4
