use Rattle.ndrange_machine.proofs.Passing.{PassesUpTo}
use Rattle.ndrange_machine.proofs.machine.Machine.pass_group.Given as goal

abbrev pub invariant-loop-number : goal.invariant-loop-number
invariant-loop-number l = PassesUpTo l.initial.self l.self l.group l.number
