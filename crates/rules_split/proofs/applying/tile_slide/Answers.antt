use Rattle.std.proofs.Common.{rules}
use Rattle.lift_tree.specs.Tree.{tree_of}
use Rattle.rewriting.specs.Around.{context_of}
use Rattle.rules_split.proofs.Tiling.{tile_slide_gives}
use Rattle.rules_split.proofs.applying.tile_slide.Goals as goal

pub returns-in-None-clause-keeps : goal.returns-in-None-clause-keeps
returns-in-None-clause-keeps c = tile_slide_gives (context_of c.args.context.now) c.args.v (tree_of c.args.term) _ c.in-None.ensures.poly (search rules)
