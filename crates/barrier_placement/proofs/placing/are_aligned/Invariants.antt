use Rattle.std.proofs.Common.{◌≡◌, true, All, take}
use Rattle.barrier_placement.proofs.placing.are_aligned.Given as goal

abbrev pub invariant-loop-touch : goal.invariant-loop-touch
invariant-loop-touch l = All (λ touch. touch.aligned ≡ true) (take l.touch-index l.touches)
