-- In which memory each computing node's value goes.
use Rattle.std.specs.Prelude.{Bool, ◌&&◌, ◌||◌, List, [], ◌∷◌, if◌then◌else◌}
use Rattle.lift_tree.specs.Tree.{Tree}
use Rattle.lift_tree.specs.Annotations.{Annotation, type_in}
use Rattle.lowered_tree.specs.declared.around.AddressSpace.{AddressSpace}
use Rattle.lowered_tree.specs.Around.{Around, at_root}
use Rattle.lift_tree.specs.Types.{is_element}
use Rattle.lowered_tree.specs.Forms.{is_lowered_map, is_lowered_fold}
use Rattle.lowered_tree.specs.Nest.{Site, sites}

-- a lowered map, a sequential fold or an element term, in writing position
abbrev pub computes : Around → Tree → Annotation → Bool
computes s t n = s.is_written && (is_lowered_map t || is_lowered_fold t || is_element (type_in n))

-- the node of the site computes
abbrev pub computes_at : Site → Bool
computes_at x = computes x.around x.tree x.types

-- the spaces of those of these sites that compute, in their order
abbrev pub spaces_in : List Site → List AddressSpace
spaces_in [] = []
spaces_in (x ∷ xs) = if computes_at x then x.around.space ∷ spaces_in xs else spaces_in xs

-- the spaces of a term's computing nodes, in preorder
abbrev pub spaces_of : Tree → Annotation → List AddressSpace
spaces_of t n = spaces_in (sites (at_root t) t n)
