use Rattle.launch_file.specs.Line.{detail_text}
use Rattle.fault_lines.specs.Lines.{piece_text}
use Rattle.fault_lines.proofs.LaunchLine.{taken_in_parts}
use Rattle.fault_lines.proofs.failure.report_launch.Goals as goal

pub returns : goal.returns
returns g c =
    let line = c.line-line.result in
    taken_in_parts _ _ _ line.head.now (detail_text line.first) line.between.now (detail_text line.second) (piece_text c.told_by.result) (piece_text c.told_by-2.result) _
    c.told_by.ensures c.told_by-2.ensures c.line-line.ensures c.write_line.ensures
