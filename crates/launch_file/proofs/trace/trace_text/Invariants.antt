use Rattle.std.proofs.Common.{◌≡◌, take}
use Rattle.launch_file.specs.TraceLines.{trace_lines}
use Rattle.launch_file.proofs.trace.trace_text.Given as goal

abbrev pub invariant-loop-event : goal.invariant-loop-event
invariant-loop-event l = l.text.items ≡ trace_lines (take l.event-index l.seen)
