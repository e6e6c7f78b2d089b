use Rattle.std.proofs.Common.{length}
use Rattle.term_texts.proofs.names.+push_starred.Given as goal

abbrev pub decreases-push_starred : goal.decreases-push_starred
decreases-push_starred l = length l.sizes.now
