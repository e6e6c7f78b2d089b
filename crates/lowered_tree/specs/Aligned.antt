-- Arrays that lie whole in one array of memory, where binders are bound to such arrays or aren't.
use Rattle.std.specs.Prelude.{Bool, true, false, List, ◌∷◌, get_or}
use Rattle.lift_tree.specs.declared.layout.Layout.TheVariants as layout
use Rattle.lift_tree.specs.declared.term.UnaryForm.TheVariants as unary
use Rattle.lift_tree.specs.Tree.{Tree, Variable, Input, Unary}

-- an input, a copy to local memory, split or join of an aligned array, or a variable that is bound
-- to one, or to an element of one
abbrev pub is_aligned : (binders : List Bool) → Tree → Bool
is_aligned g (Input i) = true
is_aligned g (Variable v) = get_or g v false
is_aligned g (Unary unary.ToLocal t) = true
is_aligned g (Unary (unary.Layout (layout.Split m)) t) = is_aligned g t
is_aligned g (Unary (unary.Layout layout.Join) t) = is_aligned g t
is_aligned g _ = false

-- the binders of the body of a let with this value, or of a map over this array
abbrev pub under_bound : List Bool → Tree → List Bool
under_bound g t = is_aligned g t ∷ g

-- those of a fold's body, whose accumulator and element stand for themselves
abbrev pub under_fold : List Bool → List Bool
under_fold g = false ∷ false ∷ g
