use Rattle.std.proofs.Common.{◌≡◌, map, take}
use Rattle.launch_file.specs.LaunchFile.{ask_of}
use Rattle.compilation.specs.Sequence.{outline_of}
use Rattle.program_runs.specs.Started.{asks_in_order}
use Rattle.program_runs.proofs.sequence.launch_asks.Given as goal

abbrev pub invariant-loop-outline : goal.invariant-loop-outline
invariant-loop-outline l = map ask_of l.asks.items ≡ asks_in_order (map outline_of (take l.outline-index l.outlines))
