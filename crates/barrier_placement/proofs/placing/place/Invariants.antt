use Rattle.std.proofs.Common.{◌≤◌}
use Rattle.barrier_placement.proofs.Steps.{Reached}
use Rattle.barrier_placement.proofs.placing.place.Given as goal

abbrev pub invariant-loop-phase : goal.invariant-loop-phase
invariant-loop-phase l = record {
  reached : Reached l.touches l.once l.phases l.phase l.first l.last l.barriers.items;
  most : l.phase ≤ l.phases;
}
