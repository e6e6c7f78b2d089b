use Rattle.lift_tree.specs.Tree.{tree_of}
use Rattle.rules_algebra.proofs.Rest.{lowered_result}
use Rattle.rules_algebra.proofs.layouts.without_second.Goals as goal

pub returns : goal.returns
returns c = lowered_result 1 (tree_of c.args.term.now) c.dropped.result c.dropped.ensures.named c.dropped.ensures.dropped
