use Rattle.strategy_script.proofs.Once.{scripts_one}
use Rattle.strategy_script.proofs.laws.scripts_end_once.Goals as goal

pub returns : goal.returns
returns c = scripts_one
