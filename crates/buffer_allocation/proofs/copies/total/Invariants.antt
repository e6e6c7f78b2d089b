use Rattle.std.proofs.Common.{◌≡◌, ◌+◌, ◌≤◌}
use Rattle.std.specs.Prelude.{drop}
use Rattle.std.specs.List.{sum}
use Rattle.buffer_allocation.specs.Copies.{held}
use Rattle.buffer_allocation.proofs.copies.total.Given as goal

abbrev pub invariant-loop-length : goal.invariant-loop-length
invariant-loop-length l = (l.total ≤ 18446744073709551615) × (held (l.total + sum (drop l.length-index l.lengths)) ≡ held (sum l.lengths))
