use Rattle.std.proofs.Common.{◌≡◌, drop, map}
use Rattle.readings.specs.Views.{items_of}
use Rattle.readings.specs.Running as running
use Rattle.readings.proofs.reading.take_all.Given as goal

abbrev pub invariant-loop-i : goal.invariant-loop-i
invariant-loop-i g l =
    let N = g.N.Notes in
    running.run N.table (items_of N.token_of N.form_of N.mark_of l.owed.items) (N.notes_of l.notes) (map N.token_of (drop l.i l.tokens))
    ≡ running.run N.table (items_of N.token_of N.form_of N.mark_of l.fn.owed.items) (N.notes_of l.fn.notes) (map N.token_of l.tokens)
