use Rattle.std.proofs.Common.{length}
use Rattle.thread_mapping.proofs.rules.+lowest.Given as goal

abbrev pub decreases-lowest : goal.decreases-lowest
decreases-lowest l = length l.rules.now
