use Rattle.std.proofs.Common.{rules}
use Rattle.lowered_tree.proofs.around.Around.laid_out.Goals as goal

pub returns-then-is_written_through : goal.returns-then-is_written_through
returns-then-is_written_through c = λ g. let e = c.passed.ensures g in search rules

pub returns-else-is_written_through : goal.returns-else-is_written_through
returns-else-is_written_through c = λ g. let e = c.operand.ensures g in search rules
