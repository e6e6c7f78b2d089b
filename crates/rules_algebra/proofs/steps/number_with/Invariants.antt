use Rattle.std.proofs.Common.{◌≡◌, ◌*◌, drop, min}
use Rattle.rules_algebra.specs.Steps.{most_number, numbers}
use Rattle.rules_algebra.proofs.steps.number_with.Given as goal

abbrev pub invariant-loop-place : goal.invariant-loop-place
invariant-loop-place l = l.so_far ≡ min (numbers l.names (drop l.place l.factors) * l.other) most_number
