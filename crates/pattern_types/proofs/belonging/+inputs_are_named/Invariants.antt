use Rattle.std.proofs.Common.{length}
use Rattle.pattern_types.proofs.belonging.+inputs_are_named.Given as goal

abbrev pub decreases-inputs_are_named : goal.decreases-inputs_are_named
decreases-inputs_are_named l = length l.inputs.now
