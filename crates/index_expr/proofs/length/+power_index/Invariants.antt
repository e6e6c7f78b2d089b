use Rattle.index_expr.proofs.length.+power_index.Given as goal

abbrev pub decreases-power_index : goal.decreases-power_index
decreases-power_index l = l.power
