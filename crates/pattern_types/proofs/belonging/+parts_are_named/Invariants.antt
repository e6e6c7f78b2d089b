use Rattle.std.proofs.Common.{length}
use Rattle.pattern_types.proofs.belonging.+parts_are_named.Given as goal

abbrev pub decreases-parts_are_named : goal.decreases-parts_are_named
decreases-parts_are_named l = length l.parts.now
