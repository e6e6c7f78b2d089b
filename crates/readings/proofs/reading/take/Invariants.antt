use Rattle.std.proofs.Common.{◌≡◌, length}
use Rattle.readings.specs.Views.{items_of}
use Rattle.readings.specs.Running.{next}
use Rattle.readings.proofs.reading.take.Given as goal

abbrev pub invariant-loop-item : goal.invariant-loop-item
invariant-loop-item g l =
    let N = g.N.Notes in
    next N.table (items_of N.token_of N.form_of N.mark_of l.owed.items) (N.notes_of l.notes) (N.token_of l.token)
    ≡ next N.table (items_of N.token_of N.form_of N.mark_of l.fn.owed.items) (N.notes_of l.fn.notes) (N.token_of l.token)

abbrev pub decreases-loop-item : goal.decreases-loop-item
decreases-loop-item g l = length l.owed.items
