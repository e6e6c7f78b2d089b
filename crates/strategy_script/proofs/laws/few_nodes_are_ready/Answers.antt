use Rattle.strategy_script.proofs.Small.{few_nodes_are_ready}
use Rattle.strategy_script.proofs.laws.few_nodes_are_ready.Goals as goal

pub returns : goal.returns
returns c = few_nodes_are_ready c.typed_nodes_type_the_term.ensures c.outputs_belong.ensures
