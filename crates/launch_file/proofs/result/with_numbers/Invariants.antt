use Rattle.std.proofs.Common.{◌≡◌, ◌+◌, ◌++◌, get_or}
use Rattle.lift_tree.specs.Values.{Word}
use Rattle.launch_file.proofs.Listed.{listed}
use Rattle.launch_file.proofs.result.with_numbers.Given as goal

abbrev pub invariant-loop-index : goal.invariant-loop-index
invariant-loop-index l =
    l.longer.items ≡ l.initial.longer.items ++ listed (λ j. Word (get_or l.numbers (l.first + j) 0)) l.index
