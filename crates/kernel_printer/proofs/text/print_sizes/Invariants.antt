use Rattle.std.proofs.Common.{◌≡◌}
use Rattle.kernel_printer.specs.Bytes.{write_sizes}
use Rattle.kernel_printer.proofs.text.print_sizes.Given as goal

abbrev pub invariant-loop-i : goal.invariant-loop-i
invariant-loop-i l = l.text.items ≡ write_sizes l.fn.text.items l.i
