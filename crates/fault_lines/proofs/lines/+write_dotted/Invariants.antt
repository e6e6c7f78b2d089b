use Rattle.std.proofs.Common.{length}
use Rattle.fault_lines.proofs.lines.+write_dotted.Given as goal

abbrev pub decreases-write_dotted : goal.decreases-write_dotted
decreases-write_dotted g l = length l.numbers.now
