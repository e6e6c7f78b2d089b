use Rattle.std.proofs.Common.{◌≡◌, drop}
use Rattle.pattern_types.specs.Judged.{product_judged}
use Rattle.pattern_types.proofs.lengths.times_factors.Given as goal

abbrev pub invariant-loop-one : goal.invariant-loop-one
invariant-loop-one l = product_judged l.names l.length (drop l.one-index l.factors) ≡ product_judged l.names l.fn.so_far l.factors
