use Rattle.lowering.proofs.strides.+named.Given as goal

abbrev pub decreases-named : goal.decreases-named
decreases-named l = l.index
