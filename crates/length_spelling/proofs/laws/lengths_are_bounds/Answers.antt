use Rattle.length_spelling.proofs.Bounds.{lengths_are_bounds}
use Rattle.length_spelling.proofs.laws.lengths_are_bounds.Goals as goal

pub returns : goal.returns
returns c = lengths_are_bounds
