use Rattle.std.proofs.Common.{◌≡◌, ◌%◌, ◌^◌, map, sum, take}
use Rattle.demo_program.proofs.sum.wrapped_sum.Given as goal

abbrev pub invariant-loop-list : goal.invariant-loop-list
invariant-loop-list l = l.total ≡ sum (map sum (map (λ ws. ws.items) (take l.list-index l.lists))) % 2 ^ 32
