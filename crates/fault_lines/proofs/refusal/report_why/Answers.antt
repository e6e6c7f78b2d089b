use Rattle.std.proofs.Common.{sym}
use Rattle.fault_lines.proofs.refusal.report_why.Goals as goal

pub returns-in-Side : goal.returns-in-Side
returns-in-Side g c = rw c.in-Side.is (rw (sym c.condition_name.ensures) c.write_line-in-Side.ensures)
