use Rattle.std.proofs.Common.{◌≡◌, ◌<◌, drop}
use Rattle.strategy_script.specs.Numbers.{value_after}
use Rattle.strategy_script.proofs.numbers.value_of.Given as goal

abbrev pub invariant-loop-digit : goal.invariant-loop-digit
invariant-loop-digit l = record {
  so_far : value_after l.value (drop l.digit-index l.digits) ≡ value_after 0 l.digits;
  small : l.value < 4294967296;
}
