use Rattle.std.proofs.Common.{subst}
use Rattle.race_marks.specs.Marked.{BeginsMarks}
use Rattle.ndrange_machine.proofs.machine.Tables.start.Goals as goal

pub returns-clause-marks : goal.returns-clause-marks
returns-clause-marks c = subst (λ n. BeginsMarks c.args.outs.now c.args.locals.now n c.in_ok-marks.marks) c.group_count.ensures c.in_ok-marks.ensures.begins
