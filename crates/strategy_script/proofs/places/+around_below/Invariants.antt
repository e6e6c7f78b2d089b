use Rattle.std.proofs.Common.{length}
use Rattle.strategy_script.proofs.places.+around_below.Given as goal

abbrev pub decreases-around_below : goal.decreases-around_below
decreases-around_below l = length l.numbers.now
