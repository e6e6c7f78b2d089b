use Rattle.std.proofs.Common.{◌≡◌, take}
use Rattle.lift_tree.proofs.program.copied_sizes.Given as goal

abbrev pub invariant-loop-size : goal.invariant-loop-size
invariant-loop-size l = l.copies.items ≡ take l.size-index l.sizes
