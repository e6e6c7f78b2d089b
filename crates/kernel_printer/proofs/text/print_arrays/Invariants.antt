use Rattle.std.proofs.Common.{◌≡◌, drop}
use Rattle.kernel_printer.specs.Bytes.{write_arrays}
use Rattle.kernel_printer.proofs.text.print_arrays.Given as goal

-- what is left to write behind the text
abbrev pub invariant-loop-i : goal.invariant-loop-i
invariant-loop-i l = write_arrays l.before l.letter l.text.items l.i (drop l.i l.lengths) ≡ write_arrays l.before l.letter l.fn.text.items 0 l.lengths
