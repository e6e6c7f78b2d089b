-- The nodes of terms that are still to be looked at.
use Rattle.std.proofs.Common.{◌+◌, ◌*◌}
use Rattle.lowering.specs.Terms.{term_of}
use Rattle.item_traffic.specs.Places.{span, span_of}
use Rattle.item_traffic.proofs.region.+regions.Given as goal

abbrev pub decreases-seek : goal.decreases-seek
decreases-seek l = 2 * (span (term_of l.term.now) + span_of l.scope.now) + 1

abbrev pub decreases-Scope::seek : goal.decreases-Scope::seek
decreases-Scope::seek l = 2 * span_of l.self.now
