use Rattle.group_phases.proofs.Printed.{phased_keeps, phases_serve, needed_keep}
use Rattle.group_phases.proofs.laws.phases_keep.Goals as goal

pub returns-clause-keep : goal.returns-clause-keep
returns-clause-keep c = λ num k l cells owner wanted p fence h sep printed. phased_keeps num k l cells owner wanted p h fence sep printed

pub returns-clause-serve : goal.returns-clause-serve
returns-clause-serve c = λ num k l cells owner wanted p fence h sep printed. phases_serve num k l cells owner wanted p h fence sep printed

pub returns-clause-needed : goal.returns-clause-needed
returns-clause-needed c = λ num k l cells owner wanted p fence h local needed printed. needed_keep num k l cells owner wanted p h c.needed_barriers_separate.ensures fence local needed printed
