use Rattle.tidy_printed.proofs.Turns.{turns_stay}
use Rattle.tidy_printed.proofs.indices.turns_stay.Goals as goal

pub returns : goal.returns
returns c = turns_stay
