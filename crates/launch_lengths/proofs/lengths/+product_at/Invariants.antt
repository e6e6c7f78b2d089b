use Rattle.std.proofs.Common.{length}
use Rattle.launch_lengths.proofs.lengths.+product_at.Given as goal

abbrev pub decreases-product_at : goal.decreases-product_at
decreases-product_at l = length l.names.now
