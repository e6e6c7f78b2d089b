use Rattle.barrier_placement.proofs.Determined.{determined}
use Rattle.barrier_placement.proofs.laws.needed_barriers_are_determined.Goals as goal

pub returns : goal.returns
returns c = determined
