use Rattle.std.proofs.Common.{◌+◌, ◌*◌}
use Rattle.lowering.specs.Terms.{term_of}
use Rattle.item_emit.specs.Nodes.{nodes}
use Rattle.item_emit.proofs.expressions.+expressions.Given as goal

abbrev pub decreases-applied : goal.decreases-applied
decreases-applied l = 2 * (nodes (term_of l.a.now) + nodes (term_of l.b.now)) + 1

abbrev pub decreases-divided : goal.decreases-divided
decreases-divided l = 2 * nodes (term_of l.a.now) + 1

abbrev pub decreases-laned : goal.decreases-laned
decreases-laned l = 2 * (nodes (term_of l.a.now) + nodes (term_of l.b.now)) + 1

abbrev pub decreases-divided_lanes : goal.decreases-divided_lanes
decreases-divided_lanes l = 2 * nodes (term_of l.a.now) + 1

abbrev pub decreases-selected : goal.decreases-selected
decreases-selected l = 2 * (nodes (term_of l.condition.now) + nodes (term_of l.yes.now) + nodes (term_of l.no.now)) + 1

abbrev pub decreases-side : goal.decreases-side
decreases-side l = 2 * (nodes (term_of l.a.now) + nodes (term_of l.b.now)) + 1

abbrev pub decreases-bound : goal.decreases-bound
decreases-bound l = 2 * nodes (term_of l.body.now) + 1

abbrev pub decreases-projected : goal.decreases-projected
decreases-projected l = 2 * nodes (term_of l.a.now) + 1

abbrev pub decreases-component : goal.decreases-component
decreases-component l = 2 * nodes (term_of l.term.now)
