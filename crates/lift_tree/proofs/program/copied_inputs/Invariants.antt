use Rattle.std.proofs.Common.{◌≡◌, take}
use Rattle.std.specs.Prelude.{map}
use Rattle.lift_tree.specs.Programs.{input_of}
use Rattle.lift_tree.proofs.program.copied_inputs.Given as goal

abbrev pub invariant-loop-input : goal.invariant-loop-input
invariant-loop-input l = map input_of l.copies.items ≡ map input_of (take l.input-index l.inputs)
