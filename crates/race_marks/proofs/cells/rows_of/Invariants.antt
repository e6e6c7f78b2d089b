use Rattle.std.proofs.Common.{◌≡◌, length, map, take}
use Rattle.race_marks.proofs.cells.rows_of.Given as goal

abbrev pub invariant-loop-row : goal.invariant-loop-row
invariant-loop-row l = l.rows ≡ record { homes = 1; lengths = map (λ row. length row.items) (take l.row-index l.cells) }
