use Rattle.std.proofs.Common.{◌≡◌, ◌++◌, drop, Ok, map}
use Rattle.serde_json.specs.View.{view}
use Rattle.lift_tree.specs.Programs.{input_of}
use Rattle.lift_tree.specs.Values.{value_of}
use Rattle.launch_file.specs.Judged.{and_then, inputs_judged}
use Rattle.launch_file.proofs.values.inputs_in.Given as goal

abbrev pub invariant-loop-index : goal.invariant-loop-index
invariant-loop-index l =
    inputs_judged l.sizes 0 (map input_of l.inputs) (view l.value)
    ≡ and_then (inputs_judged l.sizes l.index (map input_of (drop l.index l.inputs)) (view l.value)) (λ vs. Ok (map value_of l.given.items ++ vs))
