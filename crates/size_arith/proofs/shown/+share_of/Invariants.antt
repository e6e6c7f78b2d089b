use Rattle.size_arith.proofs.shown.+share_of.Given as goal

abbrev pub decreases-share_of : goal.decreases-share_of
decreases-share_of l = l.m
