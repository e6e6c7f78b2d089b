use Rattle.std.proofs.Common.{◌∙◌, sym}
use Rattle.fault_lines.proofs.failure.Failure.report.Goals as goal

pub returns-in-Read : goal.returns-in-Read
returns-in-Read g c = rw c.in-Read.is (rw (sym (c.as_bytes.ensures.value ∙ c.as_str.ensures.value)) c.write_line-in-Read.ensures)

pub returns-in-Write : goal.returns-in-Write
returns-in-Write g c = rw c.in-Write.is c.write_line-in-Write.ensures

pub returns-in-TooLong : goal.returns-in-TooLong
returns-in-TooLong g c = rw c.in-TooLong.is c.report_limit.ensures

pub returns-in-Launch : goal.returns-in-Launch
returns-in-Launch g c = rw c.in-Launch.is c.report_launch.ensures
