use Rattle.std.proofs.Common.{length}
use Rattle.array_views.proofs.stack.PairStack.+from_choices.Given as goal

abbrev pub decreases-from_choices : goal.decreases-from_choices
decreases-from_choices l = length l.choices.now
