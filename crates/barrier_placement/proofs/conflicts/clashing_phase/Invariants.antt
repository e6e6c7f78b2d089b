use Rattle.std.proofs.Common.{All, take}
use Rattle.barrier_placement.proofs.Clashes.{NoClash}
use Rattle.barrier_placement.proofs.conflicts.clashing_phase.Given as goal

abbrev pub invariant-loop-other : goal.invariant-loop-other
invariant-loop-other l = All (NoClash l.phases l.touch) (take l.other-index l.touches)
