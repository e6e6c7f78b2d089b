-- A node as code holds it, and its children, where of the binders around these are aligned.
use Rattle.std.specs.Prelude.{ℕ, ◌+◌, Bool, List, [], ◌++◌}
use Rattle.lift_tree.specs.Tree.{Tree, Variable, Number, Input, Unary, Binary, Select, Let, Map, Fold, nodes, tree_of}
use Rattle.lift_tree.specs.Annotations.{annotation_of}
use Rattle.lowered_tree.specs.Aligned.{under_bound, under_fold}
use Rattle.lowered_tree.specs.Around.{around_of}
use Rattle.lowered_tree.specs.declared.node.Node.{Node}
use Rattle.lowered_tree.specs.declared.node.Children.{Children}
use Rattle.lowered_tree.specs.declared.node.Children.TheVariants.{Leaf, One, Two, Three}
use Rattle.lowered_tree.specs.Nest.{Site, sites, site_at, under}

-- the node's term, as it is
abbrev pub own_site : List Bool → Node → Site
own_site g n = site_at (around_of n.around g) (tree_of n.term.now) (annotation_of n.types.now)

-- the node and all below it, in preorder
abbrev pub sites_of : List Bool → Node → List Site
sites_of g n = sites (around_of n.around g) (tree_of n.term.now) (annotation_of n.types.now)

-- the binders around a term's last child
abbrev pub under_last : List Bool → Tree → List Bool
under_last g (Variable v) = g
under_last g (Number n) = g
under_last g (Input i) = g
under_last g (Unary f t) = g
under_last g (Binary f t u) = g
under_last g (Select t u v) = g
under_last g (Let v b) = under_bound g v
under_last g (Map k xs b) = under_bound g xs
under_last g (Fold k xs s b) = under_fold g

-- those around the last child of a node
abbrev pub under_last_of : List Bool → Node → List Bool
under_last_of g n = under_last g (tree_of n.term.now)

-- the children and all below them, in preorder, with their places seen from the parent, where these
-- binders are around the parent, and these around the last child
abbrev pub sites_among : List Bool → (last : List Bool) → Children → List Site
sites_among g h Leaf = []
sites_among g h (One a) = under 0 (sites_of h a)
sites_among g h (Two a b) = under 0 (sites_of g a) ++ under 1 (sites_of h b)
sites_among g h (Three a b c) =
    under 0 (sites_of g a) ++ (under 1 (sites_of g b) ++ under 2 (sites_of h c))

-- how many nodes the node's term has
abbrev pub nodes_of : Node → ℕ
nodes_of n = nodes (tree_of n.term.now)

-- how many nodes the terms of the children have together
abbrev pub nodes_among : Children → ℕ
nodes_among Leaf = 0
nodes_among (One a) = nodes_of a
nodes_among (Two a b) = nodes_of a + nodes_of b
nodes_among (Three a b c) = nodes_of a + nodes_of b + nodes_of c
