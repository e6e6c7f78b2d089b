use Rattle.barrier_placement.proofs.Separation.{separates}
use Rattle.barrier_placement.proofs.laws.needed_barriers_separate.Goals as goal

pub returns : goal.returns
returns c = separates
