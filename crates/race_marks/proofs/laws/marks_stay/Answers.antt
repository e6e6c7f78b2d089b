use Rattle.race_marks.proofs.Telling.{stays}
use Rattle.race_marks.proofs.laws.marks_stay.Goals as goal

pub returns : goal.returns
returns c = stays
