use Rattle.std.proofs.Common.{length}
use Rattle.item_emit.proofs.arguments.+input.Given as goal

abbrev pub decreases-input : goal.decreases-input
decreases-input l = length l.inputs.now
