use Rattle.std.proofs.Common.{All, take}
use Rattle.barrier_placement.proofs.Clashes.{NoConflict}
use Rattle.barrier_placement.proofs.conflicts.conflict.Given as goal

abbrev pub invariant-loop-touch : goal.invariant-loop-touch
invariant-loop-touch l = All (NoConflict l.touches l.local l.earlier l.later) (take l.touch-index l.touches)
