use Rattle.demo_program.proofs.Admitted.{may_run}
use Rattle.demo_program.proofs.laws.demos_may_run.Goals as goal

pub returns : goal.returns
returns c = may_run
