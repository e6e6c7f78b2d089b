use Rattle.std.proofs.Common.{◌+◌, ◌*◌}
use Rattle.lowering.specs.Terms.{term_of}
use Rattle.item_emit.specs.Nodes.{nodes}
use Rattle.item_emit.proofs.statements.+statements.Given as goal

abbrev pub decreases-put_argument : goal.decreases-put_argument
decreases-put_argument l = 3 * nodes (term_of l.term.now)

abbrev pub decreases-put_map : goal.decreases-put_map
decreases-put_map l = 3 * (nodes (term_of l.map.now.array) + nodes (term_of l.map.now.body)) + 2

abbrev pub decreases-map_turn : goal.decreases-map_turn
decreases-map_turn l = 3 * nodes (term_of l.map.now.body) + 1

abbrev pub decreases-put_argument_let : goal.decreases-put_argument_let
decreases-put_argument_let l = 3 * (nodes (term_of l.value.now) + nodes (term_of l.body.now)) + 1

abbrev pub decreases-put_written : goal.decreases-put_written
decreases-put_written l = 3 * nodes (term_of l.term.now)

abbrev pub decreases-put_let_array : goal.decreases-put_let_array
decreases-put_let_array l = 3 * (nodes (term_of l.value.now) + nodes (term_of l.body.now)) + 1

abbrev pub decreases-put_let_element : goal.decreases-put_let_element
decreases-put_let_element l = 3 * nodes (term_of l.body.now) + 1

abbrev pub decreases-put_fold : goal.decreases-put_fold
decreases-put_fold l = 3 * nodes (term_of l.fold.now.array) + 1
