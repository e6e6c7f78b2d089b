use Rattle.std.proofs.Common.{◌≡◌, ◌++◌, length}
use Rattle.kernel_reader.proofs.made.statements_of.Given as goal

abbrev pub invariant-loop-statement : goal.invariant-loop-statement
invariant-loop-statement l = l.statements.items ++ l.block.items ≡ l.fn.block.items

abbrev pub decreases-loop-statement : goal.decreases-loop-statement
decreases-loop-statement l = length l.block.items
