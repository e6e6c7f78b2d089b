use Rattle.ndrange_machine.proofs.Settling.{SetUpTo}
use Rattle.ndrange_machine.proofs.machine.Machine.refresh.Given as goal

abbrev pub invariant-loop-number : goal.invariant-loop-number
invariant-loop-number l = SetUpTo l.initial.self l.self l.group l.number
