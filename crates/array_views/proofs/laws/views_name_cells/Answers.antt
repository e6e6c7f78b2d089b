use Rattle.array_views.proofs.Cells.{views_name_cells}
use Rattle.array_views.proofs.laws.views_name_cells.Goals as goal

pub returns : goal.returns
returns c = views_name_cells c.same_expressions_have_one_value.ensures
