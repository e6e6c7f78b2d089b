use Rattle.std.proofs.Common.{◌≡◌}
use Rattle.kernel_printer.specs.Bytes.{write_outputs}
use Rattle.kernel_printer.proofs.text.print_outputs.Given as goal

abbrev pub invariant-loop-i : goal.invariant-loop-i
invariant-loop-i l = l.text.items ≡ write_outputs l.fn.text.items l.i
