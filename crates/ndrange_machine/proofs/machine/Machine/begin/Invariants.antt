use Rattle.ndrange_machine.proofs.Settling.{BegunUpTo}
use Rattle.ndrange_machine.proofs.machine.Machine.begin.Given as goal

abbrev pub invariant-loop-group : goal.invariant-loop-group
invariant-loop-group l = BegunUpTo l.initial.self l.self l.group
