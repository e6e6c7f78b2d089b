use Rattle.race_marks.proofs.Laid.{placed}
use Rattle.race_marks.proofs.rows.places_apart.Goals as goal

pub returns : goal.returns
returns c = λ v. placed v
