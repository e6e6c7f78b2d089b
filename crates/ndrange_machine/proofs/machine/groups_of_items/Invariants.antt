use Rattle.ndrange_machine.specs.Known.{AreGroups}
use Rattle.ndrange_machine.proofs.machine.groups_of_items.Given as goal

abbrev pub invariant-loop-item : goal.invariant-loop-item
invariant-loop-item l = AreGroups l.grid l.item l.groups.items
