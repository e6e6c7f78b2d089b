use Rattle.array_views.proofs.Cells.{within}
use Rattle.array_views.proofs.laws.cells_are_within.Goals as goal

pub returns : goal.returns
returns c = within
