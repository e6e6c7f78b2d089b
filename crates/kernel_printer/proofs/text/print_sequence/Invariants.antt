use Rattle.kernel_printer.proofs.InOrder.{Behind}
use Rattle.kernel_printer.proofs.text.print_sequence.Given as goal

abbrev pub invariant-loop-number : goal.invariant-loop-number
invariant-loop-number l = Behind l.kernels l.text.items l.number
