use Rattle.std.proofs.Common.{length}
use Rattle.item_emit.proofs.arguments.+buffer_count.Given as goal

abbrev pub decreases-buffer_count : goal.decreases-buffer_count
decreases-buffer_count l = length l.inputs.now
