use Rattle.rules_algebra.proofs.steps.+multiple_at.Given as goal

abbrev pub decreases-multiple_at : goal.decreases-multiple_at
decreases-multiple_at l = l.index
