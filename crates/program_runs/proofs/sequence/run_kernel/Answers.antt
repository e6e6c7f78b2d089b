use Rattle.std.proofs.Common.{◌∙◌, ℕ, List, Option, ap, subst, sym}
use Rattle.kernel_tree.specs.declared.events.Cell.{Cell}
use Rattle.kernel_tree.specs.declared.events.FaultKind.{FaultKind}
use Rattle.kernel_tree.specs.Kernels.{kernel_of}
use Rattle.kernel_tree.specs.Launch.{Launch, MayStart}
use Rattle.kernel_tree.specs.Schedule.{schedule_of}
use Rattle.launch_file.specs.StagesShown.{count_of}
use Rattle.ndrange_device.specs.Outcomes.{FaultsUnder, Refuses}
use Rattle.ndrange_device.specs.declared.outcome.DeviceNo.{DeviceNo}
use Rattle.program_runs.specs.Sequences.{launch_at}
use Rattle.program_runs.proofs.sequence.run_kernel.Goals as goal

pub launch-requires : goal.launch-requires
launch-requires c =
    let is = c.in_ok-at.ensures ∙ ap (λ (sizes : List ℕ). launch_at sizes (count_of c.args.count)) c.deref.ensures.value in
    record { may_start = subst (λ (l : Launch). MayStart (kernel_of c.args.kernel) l c.args.cells) (sym is) c.requires.may_start }

pub unreachable-requires : goal.unreachable-requires
unreachable-requires c =
    let k = kernel_of c.args.kernel in
    let schedule = schedule_of c.args.shared.now.schedule in
    let is = c.in_ok-at.ensures ∙ ap (λ (sizes : List ℕ). launch_at sizes (count_of c.args.count)) c.deref.ensures.value in
    let clean = subst (λ (l : Launch). (kind : FaultKind) (event item : ℕ) (cell : Option Cell) → FaultsUnder schedule k l c.args.cells kind event item cell → ⊥) (sym is) c.requires.clean in
    clean _ _ _ _ (subst (λ (e : DeviceNo). Refuses schedule k c.in_ok-at.at c.args.cells e) c.in-Err-Fault.field-0-is c.in-Err-Fault.ensures.refusal)
