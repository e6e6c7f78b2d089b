use Rattle.std.proofs.Common.{subst}
use Rattle.std.proofs.Props.{props}
use Rattle.std.proofs.Math.Logic.{∥∥₁_elim}
use Rattle.kernel_tree.specs.Kernels.{kernel_of}
use Rattle.kernel_tree.specs.Schedule.{schedule_of}
use Rattle.ndrange_device.specs.Outcomes.{Refuses}
use Rattle.ndrange_device.specs.declared.outcome.DeviceNo.{DeviceNo}
use Rattle.launch_file.specs.LaunchFile.{given_by}
use Rattle.lift_tree.specs.Programs.{program_of}
use Rattle.lift_tree.specs.Types.{ty_of}
use Rattle.lift_tree.specs.FixedSizes.{asked}
use Rattle.program_runs.proofs.Running.{clean_as_made, left_as_made, run_is, seen_is, start_once, starts_as_made}
use Rattle.program_runs.proofs.run.run_back.Goals as goal

pub traced_launch-requires : goal.traced_launch-requires
traced_launch-requires c =
    let compiled = c.args.compiled.now in
    record {
      may_start = ∥∥₁_elim compiled.text_for (start_once _ _ _) (λ t.
          starts_as_made (program_of compiled.program) (ty_of compiled.output) (asked compiled.asks) compiled.text.items (given_by c.args.file.now) c.values_have_their_types.ensures c.requires t
          c.lists_have_lengths.ensures c.one_kernel.ensures _ c.in_ok-kernel.ensures _ _ c.in_ok-at.ensures c.in_ok-cells.ensures);
    }

pub unreachable-requires : goal.unreachable-requires
unreachable-requires c =
    let compiled = c.args.compiled.now in
    ∥∥₁_elim compiled.text_for (Prim.hlevel props) (λ t.
    clean_as_made (program_of compiled.program) (ty_of compiled.output) (asked compiled.asks) compiled.text.items (given_by c.args.file.now) c.values_have_their_types.ensures c.requires t
    c.lists_have_lengths.ensures c.one_kernel.ensures _ c.in_ok-kernel.ensures _ _ c.in_ok-at.ensures c.in_ok-cells.ensures _ _ _ _ _
    (subst (λ (e : DeviceNo). Refuses (schedule_of c.args.file.now.schedule) (kernel_of c.in_ok-kernel.kernel) c.in_ok-at.at c.in_ok-cells.cells e) c.in-Err-Fault.field-0-is c.in-Err-Fault.ensures.refusal))

pub returns-in-Ok-clause-left : goal.returns-in-Ok-clause-left
returns-in-Ok-clause-left c =
    let compiled = c.args.compiled.now in
    ∥∥₁_elim compiled.text_for (Prim.hlevel props) (λ t.
    left_as_made (program_of compiled.program) (ty_of compiled.output) (asked compiled.asks) compiled.text.items (given_by c.args.file.now) c.values_have_their_types.ensures c.requires t
    c.lists_have_lengths.ensures c.one_kernel.ensures _ c.in_ok-kernel.ensures _ _ c.in_ok-at.ensures c.in_ok-cells.ensures _ _ _ _ c.in-Ok.ensures.outcome)

pub returns-in-Ok-clause-run : goal.returns-in-Ok-clause-run
returns-in-Ok-clause-run c =
    let compiled = c.args.compiled.now in
    let left = ∥∥₁_elim compiled.text_for (Prim.hlevel props) (λ t.
    left_as_made (program_of compiled.program) (ty_of compiled.output) (asked compiled.asks) compiled.text.items (given_by c.args.file.now) c.values_have_their_types.ensures c.requires t
    c.lists_have_lengths.ensures c.one_kernel.ensures _ c.in_ok-kernel.ensures _ _ c.in_ok-at.ensures c.in_ok-cells.ensures _ _ _ _ c.in-Ok.ensures.outcome) in
    let p = program_of compiled.program in
    let output = ty_of compiled.output in
    let g = given_by c.args.file.now in
    let run = run_is p output g _ _ _ _ _ _ c.in_ok-at.ensures c.in_ok-cells.ensures left c.in-Ok.ensures.outcome in
    record {
      kernel = kernel_of c.in_ok-kernel.kernel;
      read = c.in_ok-kernel.ensures;
      run = run;
      seen_of_it = seen_is c.one_scheduled_run.ensures.run p output g (kernel_of c.in_ok-kernel.kernel) c.in_ok-at.at c.in_ok-cells.cells c.args.traced _ c.in_ok-at.ensures c.in_ok-cells.ensures
          c.in-Ok.ensures.traced c.in-Ok.ensures.untraced run.run run.scheduled;
    }
