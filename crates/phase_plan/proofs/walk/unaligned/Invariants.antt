use Rattle.std.proofs.Common.{◌≡◌, ◌++◌, drop}
use Rattle.std.specs.Prelude.{map}
use Rattle.phase_plan.specs.Bodies.{unaligned}
use Rattle.phase_plan.proofs.walk.unaligned.Given as goal

abbrev pub invariant-loop-touch : goal.invariant-loop-touch
invariant-loop-touch l = l.all.items ++ map unaligned (drop l.touch-index l.touches) ≡ map unaligned l.touches
