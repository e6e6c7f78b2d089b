use Rattle.std.proofs.Common.{drop}
use Rattle.launch_file.proofs.Lengths.{Balances}
use Rattle.launch_file.proofs.length.length_at.Given as goal

abbrev pub invariant-loop-part : goal.invariant-loop-part
invariant-loop-part l = Balances l.sizes l.fn.length (drop l.part-index l.part-items) l.sum
