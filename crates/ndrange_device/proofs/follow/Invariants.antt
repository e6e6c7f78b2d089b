use Rattle.std.proofs.Common.{◌-◌, suc}
use Rattle.kernel_tree.specs.Bound.{bound}
use Rattle.kernel_tree.specs.Schedule.{schedule_of}
use Rattle.ndrange_device.proofs.Running.{RunsAlong}
use Rattle.ndrange_device.proofs.follow.Given as goal

abbrev pub invariant-loop-enabled : goal.invariant-loop-enabled
invariant-loop-enabled g l = RunsAlong (schedule_of l.schedule) g.begun.kernel g.begun.launch g.begun.cells l.machine l.progress l.steps l.enabled

abbrev pub decreases-loop-enabled : goal.decreases-loop-enabled
decreases-loop-enabled g l = suc (bound g.begun.kernel g.begun.launch) - l.steps
