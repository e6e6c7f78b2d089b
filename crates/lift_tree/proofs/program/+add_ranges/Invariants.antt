use Rattle.std.proofs.Common.{length}
use Rattle.lift_tree.proofs.program.+add_ranges.Given as goal

abbrev pub decreases-add_ranges : goal.decreases-add_ranges
decreases-add_ranges l = length l.sizes.now
