use Rattle.std.proofs.Common.{◌+◌, ◌*◌}
use Rattle.lowering.specs.Terms.{term_of}
use Rattle.item_emit.specs.Nodes.{nodes}
use Rattle.grid_emit.proofs.statements.+statements.Given as goal

abbrev pub decreases-put_argument : goal.decreases-put_argument
decreases-put_argument l = 2 * nodes (term_of l.term.now)

abbrev pub decreases-put_argument_let : goal.decreases-put_argument_let
decreases-put_argument_let l = 2 * (nodes (term_of l.value.now) + nodes (term_of l.body.now)) + 1

abbrev pub decreases-put_written : goal.decreases-put_written
decreases-put_written l = 2 * nodes (term_of l.term.now)

abbrev pub decreases-put_map : goal.decreases-put_map
decreases-put_map l = 2 * nodes (term_of l.map.now.array) + 1

abbrev pub decreases-put_let : goal.decreases-put_let
decreases-put_let l = 2 * (nodes (term_of l.value.now) + nodes (term_of l.body.now)) + 1
