use Rattle.std.proofs.Common.{◌≡◌, drop}
use Rattle.pattern_types.specs.Judged.{sum_judged}
use Rattle.pattern_types.proofs.lengths.with_parts.Given as goal

abbrev pub invariant-loop-one : goal.invariant-loop-one
invariant-loop-one l = sum_judged l.names l.length (drop l.one-index l.parts) ≡ sum_judged l.names l.fn.sum_so_far l.parts
