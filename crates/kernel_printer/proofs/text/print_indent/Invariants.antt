use Rattle.std.proofs.Common.{◌≡◌, ◌++◌}
use Rattle.kernel_tree.specs.KernelText.{indent}
use Rattle.kernel_printer.proofs.text.print_indent.Given as goal

abbrev pub invariant-loop-i : goal.invariant-loop-i
invariant-loop-i l = l.text.items ≡ l.fn.text.items ++ indent l._i
