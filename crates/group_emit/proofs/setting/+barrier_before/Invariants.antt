use Rattle.std.proofs.Common.{length}
use Rattle.group_emit.proofs.setting.+barrier_before.Given as goal

abbrev pub decreases-barrier_before : goal.decreases-barrier_before
decreases-barrier_before l = length l.barriers.now
