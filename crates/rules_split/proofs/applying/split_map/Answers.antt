use Rattle.std.proofs.Common.{rules}
use Rattle.lift_tree.specs.Tree.{tree_of}
use Rattle.rewriting.specs.Around.{context_of}
use Rattle.rules_split.proofs.Splitting.{split_map_gives}
use Rattle.rules_split.proofs.applying.split_map.Goals as goal

pub returns-in_ok-mapped_by_rows-in-None-clause-keeps : goal.returns-in_ok-mapped_by_rows-in-None-clause-keeps
returns-in_ok-mapped_by_rows-in-None-clause-keeps c = split_map_gives (context_of c.args.context.now) c.args.k (tree_of c.args.term) _ c.in-None.ensures.poly (search rules)
