use Rattle.std.proofs.Common.{◌≡◌}
use Rattle.kernel_printer.specs.Bytes.{write_variables}
use Rattle.kernel_printer.proofs.text.print_variables.Given as goal

abbrev pub invariant-loop-i : goal.invariant-loop-i
invariant-loop-i l = l.text.items ≡ write_variables l.fn.text.items l.i
