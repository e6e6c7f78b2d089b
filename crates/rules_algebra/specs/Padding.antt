-- Rules that move a map over padding.
use Rattle.rewriting.specs.Answers.{Answer, Becomes, NoShape}
use Rattle.lift_tree.specs.declared.term.MapKind.TheVariants.{Plain}
use Rattle.lift_tree.specs.declared.term.UnaryForm.TheVariants.{Pad}
use Rattle.lift_tree.specs.Tree.{Tree, Unary, Map}

-- pad(l, r, map(\x. f, xs)) becomes map(\x. f, pad(l, r, xs))
abbrev pub pad_map : Tree → Answer
pad_map (Unary (Pad l r) (Map Plain xs f)) = Becomes (Map Plain (Unary (Pad l r) xs) f)
pad_map _ = NoShape

-- map(\x. f, pad(l, r, xs)) becomes pad(l, r, map(\x. f, xs))
abbrev pub map_pad : Tree → Answer
map_pad (Map Plain (Unary (Pad l r) xs) f) = Becomes (Unary (Pad l r) (Map Plain xs f))
map_pad _ = NoShape
