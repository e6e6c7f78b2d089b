use Rattle.std.proofs.Common.{◌-◌, suc}
use Rattle.kernel_tree.specs.Bound.{bound}
use Rattle.kernel_tree.specs.Kernels.{kernel_of}
use Rattle.kernel_tree.specs.Schedule.{schedule_of}
use Rattle.ndrange_device.proofs.Running.{NotesAlong}
use Rattle.ndrange_device.proofs.run_traced.Given as goal

abbrev pub invariant-loop-enabled : goal.invariant-loop-enabled
invariant-loop-enabled g l = NotesAlong (schedule_of l.schedule) (kernel_of l.fn.kernel) l.fn.launch l.fn.cells l.machine l.progress l.steps l.enabled l.fn.trace.items l.trace.items

abbrev pub decreases-loop-enabled : goal.decreases-loop-enabled
decreases-loop-enabled g l = suc (bound (kernel_of l.fn.kernel) l.fn.launch) - l.steps
