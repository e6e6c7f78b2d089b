use Rattle.std.proofs.Math.Logic.{∥∥₁_elim}
use Rattle.launch_file.specs.LaunchFile.{given_by}
use Rattle.lift_tree.specs.Programs.{program_of}
use Rattle.lift_tree.specs.Types.{ty_of}
use Rattle.program_source.specs.Program.{source_value}
use Rattle.program_runs.specs.Runs.{world_given}
use Rattle.program_runs.proofs.LaidOut.{small_once, wide}
use Rattle.program_runs.proofs.run.line_left.Goals as goal

pub listed_text-requires-clause-small : goal.listed_text-requires-clause-small
listed_text-requires-clause-small c =
    let compiled = c.args.compiled.now in
    ∥∥₁_elim compiled.text_for (small_once _ 1 (ty_of compiled.output)) (λ t. t.laid_out.small (given_by c.args.file.now).bases c.requires.admissible.launch.sizes)

pub listed_text-requires-clause-within : goal.listed_text-requires-clause-within
listed_text-requires-clause-within c = wide c.components_are_counted.ensures (ty_of c.args.compiled.now.output) (source_value (program_of c.args.compiled.now.program) (world_given (given_by c.args.file.now))) _ c.args.outs.now c.requires.left
