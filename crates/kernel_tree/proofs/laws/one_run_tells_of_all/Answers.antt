-- The law of `one_run_tells_of_all`, by the lemmas beside.
use Rattle.kernel_tree.proofs.EveryRun.{every_run}
use Rattle.kernel_tree.proofs.laws.one_run_tells_of_all.Goals as goal

pub returns : goal.returns
returns c = λ d s es whole all. every_run d whole s es all
