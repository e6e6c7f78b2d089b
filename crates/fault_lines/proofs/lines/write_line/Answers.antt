use Rattle.fault_lines.proofs.Taken.{takes_line}
use Rattle.fault_lines.proofs.lines.write_line.Goals as goal

pub returns : goal.returns
returns g c = takes_line _ _ _ _ _ _ c.write_pieces.ensures.all c.write_pieces.ensures.prefix c.write_pieces.ensures.cause
