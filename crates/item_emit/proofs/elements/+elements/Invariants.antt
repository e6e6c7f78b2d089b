use Rattle.std.proofs.Common.{◌+◌, ◌*◌}
use Rattle.lowering.specs.Terms.{term_of}
use Rattle.item_emit.specs.Nodes.{nodes}
use Rattle.item_emit.proofs.elements.+elements.Given as goal

abbrev pub decreases-put_two : goal.decreases-put_two
decreases-put_two l = 4 * (nodes (term_of l.a.now) + nodes (term_of l.b.now)) + 1

abbrev pub decreases-put_selected : goal.decreases-put_selected
decreases-put_selected l = 4 * (nodes (term_of l.condition.now) + nodes (term_of l.yes.now) + nodes (term_of l.no.now)) + 2

abbrev pub decreases-put_bound : goal.decreases-put_bound
decreases-put_bound l = 4 * nodes (term_of l.value.now) + 1

abbrev pub decreases-put_let : goal.decreases-put_let
decreases-put_let l = 4 * (nodes (term_of l.value.now) + nodes (term_of l.body.now)) + 2

abbrev pub decreases-put_element : goal.decreases-put_element
decreases-put_element l = 4 * nodes (term_of l.term.now)
