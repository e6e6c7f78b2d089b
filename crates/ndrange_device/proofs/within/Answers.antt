use Rattle.std.proofs.Common.{sym}
use Rattle.std.proofs.Math.Nat.{mod-eq_of_lt}
use Rattle.ndrange_device.proofs.within.Goals as goal

pub returns-then-number-count : goal.returns-then-number-count
returns-then-number-count c = sym (mod-eq_of_lt c.if-number-count.true)
