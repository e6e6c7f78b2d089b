-- The law of `groups_meet`, by the lemmas beside.
use Rattle.kernel_tree.proofs.Meets.{every_run_meets}
use Rattle.kernel_tree.proofs.laws.groups_meet.Goals as goal

pub returns : goal.returns
returns c = λ d s es fs every r. every_run_meets d s es every fs r
