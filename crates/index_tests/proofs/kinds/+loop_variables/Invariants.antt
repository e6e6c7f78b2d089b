use Rattle.index_tests.proofs.kinds.+loop_variables.Given as goal

abbrev pub decreases-loop_variables : goal.decreases-loop_variables
decreases-loop_variables l = l.count
