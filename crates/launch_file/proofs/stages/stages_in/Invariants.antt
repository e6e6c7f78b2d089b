use Rattle.std.proofs.Common.{◌≡◌, ◌++◌, drop, Ok, map}
use Rattle.launch_file.specs.Judged.{and_then}
use Rattle.launch_file.specs.LaunchFile.{ask_of}
use Rattle.launch_file.specs.Stages.{stages_judged_from}
use Rattle.launch_file.specs.StagesShown.{count_of, values_in}
use Rattle.launch_file.proofs.stages.stages_in.Given as goal

abbrev pub invariant-loop-number : goal.invariant-loop-number
invariant-loop-number l =
    stages_judged_from 0 (map ask_of l.asks) (values_in l.values)
    ≡ and_then (stages_judged_from l.number (drop l.number (map ask_of l.asks)) (drop l.number (values_in l.values))) (λ cs. Ok (map count_of l.counts.items ++ cs))
