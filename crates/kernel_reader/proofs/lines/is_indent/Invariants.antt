use Rattle.std.proofs.Common.{◌≡◌, drop, replicate}
use Rattle.std.specs.Prelude.{bytes_eq}
use Rattle.kernel_tree.specs.KernelText.{indent}
use Rattle.kernel_reader.proofs.lines.is_indent.Given as goal

abbrev pub invariant-loop-b : goal.invariant-loop-b
invariant-loop-b l = bytes_eq (drop l.b-index l.piece) (replicate l.left 32) ≡ bytes_eq l.piece (indent l.level)
