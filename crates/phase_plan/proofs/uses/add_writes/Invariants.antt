use Rattle.std.proofs.Common.{◌≡◌, ◌≤◌, ◌-◌, ◌++◌}
use Rattle.group_form.specs.Uses.{touches_in, writes_from}
use Rattle.phase_plan.proofs.uses.add_writes.Given as goal

abbrev pub invariant-loop-array : goal.invariant-loop-array
invariant-loop-array l = record {
  within : l.first ≤ l.array;
  written : l.touches.items ++ touches_in l.phase (writes_from l.first l.direct (l.array - l.first)) ≡ l.initial.touches.items ++ touches_in l.phase (writes_from l.first l.direct (l.initial.array - l.first));
}

abbrev pub decreases-loop-array : goal.decreases-loop-array
decreases-loop-array l = l.array
