use Rattle.std.proofs.Common.{length}
use Rattle.pattern_types.proofs.programs.+judge_inputs.Given as goal

abbrev pub decreases-judge_inputs : goal.decreases-judge_inputs
decreases-judge_inputs l = length l.inputs.now
