use Rattle.lowering.specs.Terms.{term_of}
use Rattle.item_emit.specs.Nodes.{nodes}
use Rattle.grid_emit.proofs.groups.+grid.Given as goal

abbrev pub decreases-grid : goal.decreases-grid
decreases-grid l = nodes (term_of l.term.now)
