use Rattle.std.proofs.Common.{length}
use Rattle.lowered_tree.proofs.forms.+is_over_sizes.Given as goal

abbrev pub decreases-is_over_sizes : goal.decreases-is_over_sizes
decreases-is_over_sizes l = length l.length.now
