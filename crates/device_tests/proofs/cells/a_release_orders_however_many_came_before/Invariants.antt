use Rattle.std.proofs.Common.{◌≡◌, length}
use Rattle.device_tests.proofs.cells.a_release_orders_however_many_came_before.Given as goal

abbrev pub invariant-loop : goal.invariant-loop
invariant-loop g l = (l.marks.groups ≡ 2) × (length l.marks.marks ≡ 1)
