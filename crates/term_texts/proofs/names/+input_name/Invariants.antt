use Rattle.std.proofs.Common.{length}
use Rattle.term_texts.proofs.names.+input_name.Given as goal

abbrev pub decreases-input_name : goal.decreases-input_name
decreases-input_name l = length l.inputs.now
