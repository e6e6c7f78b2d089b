use Rattle.std.proofs.Common.{length}
use Rattle.lowered_tree.proofs.forms.+names_a_size.Given as goal

abbrev pub decreases-names_a_size : goal.decreases-names_a_size
decreases-names_a_size l = length l.powers.now
