use Rattle.fault_lines.proofs.Taken.{prefix_of_both}
use Rattle.fault_lines.proofs.lines.write_behind_dot.Goals as goal

pub returns-clause-prefix : goal.returns-clause-prefix
returns-clause-prefix g c = prefix_of_both _ _ _ _ _ c.in_ok-write_whole.ensures.all c.write_number.ensures.prefix
