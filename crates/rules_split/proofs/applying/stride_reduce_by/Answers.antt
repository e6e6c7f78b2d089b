use Rattle.std.proofs.Common.{rules}
use Rattle.lift_tree.specs.Tree.{tree_of}
use Rattle.rewriting.specs.Around.{context_of}
use Rattle.rules_split.proofs.Rows.{stride_reduce_gives}
use Rattle.rules_split.proofs.applying.stride_reduce_by.Goals as goal

pub returns-clause-keeps : goal.returns-clause-keeps
returns-clause-keeps g c = stride_reduce_gives g.R.Regroup.operator g.met.R.Regroup.laws (context_of c.args.context.now) c.args.k (tree_of c.args.term) _ c.requires c.in_default.ensures.poly (search rules)
