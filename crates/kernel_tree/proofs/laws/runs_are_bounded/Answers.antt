-- The law of `runs_are_bounded`, by the lemmas beside.
use Rattle.kernel_tree.proofs.Bound.{within_bound, run_within_bound}
use Rattle.kernel_tree.proofs.laws.runs_are_bounded.Goals as goal

pub returns-clause-every : goal.returns-clause-every
returns-clause-every c = run_within_bound

pub returns-clause-without_failure : goal.returns-clause-without_failure
returns-clause-without_failure c = within_bound
