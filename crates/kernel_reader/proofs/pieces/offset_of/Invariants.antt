use Rattle.std.proofs.Common.{◌≡◌, length, take}
use Rattle.std.specs.Prelude.{sum_by}
use Rattle.kernel_reader.specs.Views.{bytes_of}
use Rattle.kernel_reader.proofs.pieces.offset_of.Given as goal

abbrev pub invariant-loop-i : goal.invariant-loop-i
invariant-loop-i l = l.offset ≡ sum_by (λ p. length (bytes_of p)) (take l.i l.pieces)
