use Rattle.std.proofs.Common.{length}
use Rattle.pattern_types.proofs.belonging.+are_input_types.Given as goal

abbrev pub decreases-are_input_types : goal.decreases-are_input_types
decreases-are_input_types l = length l.inputs.now
