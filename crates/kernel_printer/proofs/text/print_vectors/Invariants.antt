use Rattle.std.proofs.Common.{◌≡◌}
use Rattle.kernel_printer.specs.Bytes.{write_vectors}
use Rattle.kernel_printer.proofs.text.print_vectors.Given as goal

abbrev pub invariant-loop-i : goal.invariant-loop-i
invariant-loop-i l = l.text.items ≡ write_vectors l.fn.text.items l.i
