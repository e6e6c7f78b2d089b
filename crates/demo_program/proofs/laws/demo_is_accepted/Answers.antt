use Rattle.demo_program.proofs.Steps.{accepted}
use Rattle.demo_program.proofs.laws.demo_is_accepted.Goals as goal

pub returns : goal.returns
returns c = accepted
