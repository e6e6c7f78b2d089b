use Rattle.std.proofs.Common.{◌≡◌, take}
use Rattle.race_marks.proofs.rows.Rows.of_lengths.Given as goal

abbrev pub invariant-loop-length : goal.invariant-loop-length
invariant-loop-length l = l.rows ≡ record { homes = l.homes; lengths = take l.length-index l.lengths }
