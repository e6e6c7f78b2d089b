use Rattle.pattern_types.proofs.Whole as whole
use Rattle.pattern_types.proofs.laws.judged_types_are_right.Goals as goal

pub returns : goal.returns
returns c = whole.judged_types_are_right
