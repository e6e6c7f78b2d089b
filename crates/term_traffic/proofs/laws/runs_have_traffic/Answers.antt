use Rattle.term_traffic.proofs.Runs.{runs_have_traffic}
use Rattle.term_traffic.proofs.laws.runs_have_traffic.Goals as goal

pub returns : goal.returns
returns c = runs_have_traffic c.kernels_keep.ensures.keep c.needed_barriers_are_determined.ensures c.code_tells_traffic.ensures.accesses c.code_tells_traffic.ensures.releases c.turns_go_one_by_one.ensures
