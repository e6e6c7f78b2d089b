use Rattle.lowering.specs.Terms.{term_of}
use Rattle.item_emit.specs.Nodes.{nodes}
use Rattle.group_emit.proofs.groups.+groups.Given as goal

abbrev pub decreases-groups : goal.decreases-groups
decreases-groups l = nodes (term_of l.term.now)
