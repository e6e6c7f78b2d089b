use Rattle.std.proofs.Common.{◌≡◌, ◌++◌, length}
use Rattle.std.specs.Prelude.{option_map}
use Rattle.std.specs.List.{slice_split}
use Rattle.strategy_script.specs.Numbers.{is_dot, numbers_of}
use Rattle.strategy_script.proofs.numbers.numbers_of.Given as goal

abbrev pub invariant-parts : goal.invariant-parts
invariant-parts l = option_map (λ ns. l.numbers.items ++ ns) (numbers_of (slice_split is_dot l.rest)) ≡ numbers_of (slice_split is_dot l.fn.text)

abbrev pub decreases-parts : goal.decreases-parts
decreases-parts l = length l.rest
