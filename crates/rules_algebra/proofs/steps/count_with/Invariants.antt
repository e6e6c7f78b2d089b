use Rattle.std.proofs.Common.{◌≡◌, ◌+◌, drop, min}
use Rattle.rules_algebra.specs.Steps.{count, most_power}
use Rattle.rules_algebra.proofs.steps.count_with.Given as goal

abbrev pub invariant-loop-place : goal.invariant-loop-place
invariant-loop-place l = l.so_far ≡ min (count l.sizes l.index (drop l.place l.factors) + l.other) most_power
