use Rattle.std.proofs.Common.{◌∙◌, List, ap, map}
use Rattle.std.proofs.Math.Logic.{∥∥₁_elim}
use Rattle.launch_file.specs.LaunchFile.{given_by}
use Rattle.lift_tree.specs.Launches.{buffers_of}
use Rattle.lift_tree.specs.Programs.{program_of}
use Rattle.lift_tree.specs.Types.{ty_of}
use Rattle.lift_tree.specs.Typing.{declared_by}
use Rattle.lift_tree.specs.Values.{value_of}
use Rattle.lift_tree.specs.declared.value.Val.{Val}
use Rattle.program_runs.proofs.LaidOut.{small_once}
use Rattle.program_runs.proofs.cells.begun.Goals as goal

pub blank_lists-requires : goal.blank_lists-requires
blank_lists-requires c =
    let compiled = c.args.compiled.now in
    ∥∥₁_elim compiled.text_for (small_once _ 1 (ty_of compiled.output)) (λ t. t.laid_out.small (given_by c.args.file.now).bases c.requires.launch.sizes)

pub returns : goal.returns
returns c =
    let read = c.in_ok-ins.ensures ∙ ap (λ (vs : List Val). buffers_of (declared_by (program_of c.args.compiled.now.program)).inputs (map value_of vs)) c.deref.ensures.value in
    λ i. record { ins = read i; outs = c.in_ok-outs.ensures i; rest = 0 }
