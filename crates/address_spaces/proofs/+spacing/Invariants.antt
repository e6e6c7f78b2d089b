use Rattle.std.proofs.Common.{◌+◌, ◌*◌}
use Rattle.lowered_tree.specs.Nodes.{nodes_of, nodes_among}
use Rattle.address_spaces.proofs.+spacing.Given as goal

-- a node counts after its children
abbrev pub decreases-add_children : goal.decreases-add_children
decreases-add_children l = 2 * nodes_among l.children + 1

abbrev pub decreases-add_spaces : goal.decreases-add_spaces
decreases-add_spaces l = 2 * nodes_of l.node
