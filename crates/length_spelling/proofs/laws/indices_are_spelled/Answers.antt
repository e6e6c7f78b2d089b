use Rattle.length_spelling.proofs.Values.{indices_are_spelled}
use Rattle.length_spelling.proofs.laws.indices_are_spelled.Goals as goal

pub returns : goal.returns
returns c = indices_are_spelled
