use Rattle.lift_tree.specs.Tree.{tree_of}
use Rattle.rewriting.specs.Around.{context_of}
use Rattle.rules_algebra.proofs.Ruled.{join_split_rule}
use Rattle.rules_algebra.proofs.layouts.join_split.Goals as goal

pub returns-clause-keeps : goal.returns-clause-keeps
returns-clause-keeps c = join_split_rule (context_of c.args.context.now) (tree_of c.args.term) (tree_of c.unsplit.result) c.unsplit.ensures c.has_polynomial_below.ensures
