use Rattle.std.proofs.Common.{◌≡◌, take}
use Rattle.ndrange_machine.specs.Known.{numbers}
use Rattle.ndrange_machine.proofs.turn.same_numbers.Given as goal

abbrev pub invariant-loop-i : goal.invariant-loop-i
invariant-loop-i l = take l.i (numbers l.turns) ≡ take l.i (numbers l.others)
