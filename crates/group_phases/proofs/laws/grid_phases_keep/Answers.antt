use Rattle.group_phases.proofs.GridPrinted.{grid_keeps, grid_serves, grid_needed}
use Rattle.group_phases.proofs.laws.grid_phases_keep.Goals as goal

pub returns-clause-keep : goal.returns-clause-keep
returns-clause-keep c = λ num k l cells owner wanted p fence h sep printed. grid_keeps num k l cells owner wanted p h fence printed sep

pub returns-clause-serve : goal.returns-clause-serve
returns-clause-serve c = λ num k l cells owner wanted p fence h sep printed. grid_serves num k l cells owner wanted p h fence printed sep

pub returns-clause-needed : goal.returns-clause-needed
returns-clause-needed c = λ num k l cells owner wanted p fence h local needed printed. grid_needed num k l cells owner wanted p h fence printed c.needed_barriers_separate.ensures local needed
