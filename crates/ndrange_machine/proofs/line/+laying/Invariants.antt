use Rattle.std.proofs.Common.{◌≡◌, ◌++◌, map, length}
use Rattle.kernel_tree.specs.Code.{End}
use Rattle.kernel_tree.specs.Tree.{code_then}
use Rattle.ndrange_machine.specs.Lines.{lines_at}
use Rattle.ndrange_machine.specs.Wants.{text_of}
use Rattle.ndrange_machine.proofs.line.+laying.Given as goal

abbrev pub invariant-lay-loop-statement : goal.invariant-lay-loop-statement
invariant-lay-loop-statement l = map text_of l.lines.items ≡ map text_of l.fn.lines.items ++ lines_at (length l.fn.lines.items) (code_then l.yielded End)
