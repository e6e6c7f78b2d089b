-- Rules that join two loops into one.
use Rattle.rewriting.specs.Answers.{Answer, Becomes, NoShape}
use Rattle.lift_tree.specs.declared.term.MapKind.TheVariants.{Plain}
use Rattle.lift_tree.specs.declared.term.FoldKind.TheVariants as fold
use Rattle.lift_tree.specs.Tree.{Tree, Let, Map, Fold}
use Rattle.lift_tree.specs.Renumbering.{raise}

-- map(\y. f, map(\x. g, xs)) becomes map(\x. let y = g in f, xs)
abbrev pub fuse_map : Tree → Answer
fuse_map (Map Plain (Map Plain xs g) f) = Becomes (Map Plain xs (Let g (raise 1 f)))
fuse_map _ = NoShape

-- fold(\a y. f, s, map(\x. g, xs)) becomes fold(\a x. let y = g in f, s, xs)
abbrev pub fuse_fold : Tree → Answer
fuse_fold (Fold fold.Plain (Map Plain xs g) s f) =
    Becomes (Fold fold.Plain xs s (Let (raise 1 g) (raise 1 f)))
fuse_fold _ = NoShape
