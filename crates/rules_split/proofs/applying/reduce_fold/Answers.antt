use Rattle.std.proofs.Common.{rules}
use Rattle.lift_tree.specs.Tree.{tree_of}
use Rattle.rewriting.specs.Around.{context_of}
use Rattle.rules_split.proofs.Rows.{reduce_fold_gives}
use Rattle.rules_split.proofs.applying.reduce_fold.Goals as goal

pub returns-in_ok-folded-in-Binary-Reduce-default-default-clause-keeps : goal.returns-in_ok-folded-in-Binary-Reduce-default-default-clause-keeps
returns-in_ok-folded-in-Binary-Reduce-default-default-clause-keeps c = reduce_fold_gives (context_of c.args.context.now) (tree_of c.args.term) _ (search rules)
