use Rattle.std.proofs.Common.{length, map}
use Rattle.kernel_tree.specs.Kernels.{kernel_of}
use Rattle.lift_tree.specs.Programs.{program_of}
use Rattle.lift_tree.specs.Types.{ty_of}
use Rattle.compilation.specs.Sequence.{outline_of}
use Rattle.launch_file.specs.StagesShown.{count_of, shared_of}
use Rattle.program_runs.proofs.Turns.{SoFar}
use Rattle.program_runs.proofs.sequence.run_in_turn.Given as goal

abbrev pub invariant-loop-number : goal.invariant-loop-number
invariant-loop-number l =
    SoFar (program_of l.compiled.program) (ty_of l.compiled.output) (map outline_of l.compiled.outlines.items) l.compiled.text.items (record { shared = shared_of l.shared; counts = map count_of l.counts })
    (map kernel_of l.fn.kernels.items) (map (λ x. x.items) l.fn.inputs.items)
    (length l.yielded) (map (λ x. x.items) l.inputs.items) (map (λ x. x.items) l.ran.outputs.items) l.ran.events l.ran.releases
