use Rattle.readings.proofs.Ran.{told_found, told_only, told_refused}
use Rattle.readings.proofs.reading.read.Goals as goal

pub returns-clause-found : goal.returns-clause-found
returns-clause-found g c = let N = g.N.Notes in told_found N.notes_of N.grammar N.table g.met.N.Notes.decides _ _ _ c.run.result c.run.ensures

pub returns-clause-only : goal.returns-clause-only
returns-clause-only g c = let N = g.N.Notes in told_only N.notes_of N.grammar N.table g.met.N.Notes.decides _ _ _ c.run.result c.run.ensures

pub returns-clause-refused : goal.returns-clause-refused
returns-clause-refused g c = let N = g.N.Notes in told_refused N.notes_of N.grammar N.table g.met.N.Notes.decides _ _ _ c.run.result c.run.ensures
