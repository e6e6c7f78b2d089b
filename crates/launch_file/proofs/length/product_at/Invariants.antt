use Rattle.std.proofs.Common.{◌≡◌, ◌*◌, ◌%◌, ◌^◌, drop}
use Rattle.lift_tree.specs.Meaning.{product_at}
use Rattle.launch_file.proofs.length.product_at.Given as goal

abbrev pub invariant-loop-factor : goal.invariant-loop-factor
invariant-loop-factor l = (l.product * product_at l.sizes (drop l.factor-index l.factors)) % 2 ^ 64 ≡ product_at l.sizes l.factors % 2 ^ 64
