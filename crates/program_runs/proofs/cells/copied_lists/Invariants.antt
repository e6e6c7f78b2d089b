use Rattle.std.proofs.Common.{◌≡◌, map, take}
use Rattle.program_runs.proofs.cells.copied_lists.Given as goal

abbrev pub invariant-loop-list : goal.invariant-loop-list
invariant-loop-list l = map (λ x. x.items) l.copy.items ≡ map (λ x. x.items) (take l.list-index l.lists)
