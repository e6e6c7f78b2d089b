use Rattle.lowering.specs.Terms.{term_of}
use Rattle.item_emit.specs.Nodes.{nodes}
use Rattle.grid_emit.proofs.groups.+along_groups.Given as goal

abbrev pub decreases-along_groups : goal.decreases-along_groups
decreases-along_groups l = nodes (term_of l.term.now)
