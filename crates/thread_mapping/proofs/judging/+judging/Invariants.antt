use Rattle.std.proofs.Common.{◌+◌, ◌*◌}
use Rattle.lowered_tree.specs.Nodes.{nodes_of, nodes_among}
use Rattle.thread_mapping.proofs.judging.+judging.Given as goal

-- a node counts after its children, and is reached through what binds it
abbrev pub decreases-first_among : goal.decreases-first_among
decreases-first_among l = 4 * nodes_among l.children + 3

abbrev pub decreases-first_below : goal.decreases-first_below
decreases-first_below l = 4 * nodes_of l.node + 2

abbrev pub decreases-first_under : goal.decreases-first_under
decreases-first_under l = 4 * nodes_of l.node + 1

abbrev pub decreases-first_in : goal.decreases-first_in
decreases-first_in l = 4 * nodes_of l.node
