use Rattle.std.proofs.Common.{◌≡◌, take}
use Rattle.kernel_emit.proofs.printed.words.Given as goal

abbrev pub invariant-loop-length : goal.invariant-loop-length
invariant-loop-length l = l.words.items ≡ take l.length-index l.lengths
