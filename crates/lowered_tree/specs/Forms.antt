-- What a nest rule looks at in a node itself.
use Rattle.std.specs.Prelude.{Bool, true, false, not, ◌&&◌, ◌||◌}
use Rattle.lift_tree.specs.declared.layout.Layout.{Layout}
use Rattle.lift_tree.specs.declared.layout.Layout.TheVariants as layout
use Rattle.lift_tree.specs.declared.term.UnaryForm.TheVariants as unary
use Rattle.lift_tree.specs.declared.term.BinaryForm.TheVariants as binary
use Rattle.lift_tree.specs.declared.term.MapKind.{MapKind}
use Rattle.lift_tree.specs.declared.term.FoldKind.TheVariants as fold_kind
use Rattle.lift_tree.specs.Tree.{Tree, Variable, Number, Input, Unary, Binary, Select, Let, Map, Fold}
use Rattle.lift_tree.specs.Annotations.{Annotation, Two, type_in}
use Rattle.lift_tree.specs.Types.{is_element}
use Rattle.lowered_tree.specs.Kinds.{is_plain, is_local}

-- a map of such a kind
abbrev pub is_map_of : (MapKind → Bool) → Tree → Bool
is_map_of p (Map k xs b) = p k
is_map_of p _ = false

-- a plain map, reduce or fold: nobody said yet who does its work
abbrev pub is_undecided : Tree → Bool
is_undecided (Map k xs b) = is_plain k
is_undecided (Fold fold_kind.Plain xs s b) = true
is_undecided (Binary (binary.Reduce r) t u) = true
is_undecided _ = false

-- a map of which it is said who does its work
abbrev pub is_lowered_map : Tree → Bool
is_lowered_map = is_map_of (λ k. not (is_plain k))

-- a sequential fold
abbrev pub is_lowered_fold : Tree → Bool
is_lowered_fold (Fold fold_kind.Sequential xs s b) = true
is_lowered_fold _ = false

-- a copy to local memory
abbrev pub is_local_copy : Tree → Bool
is_local_copy (Unary unary.ToLocal t) = true
is_local_copy _ = false

-- a copy to private memory
abbrev pub is_private_copy : Tree → Bool
is_private_copy (Unary unary.ToPrivate t) = true
is_private_copy _ = false

-- a copy to either
abbrev pub is_copy : Tree → Bool
is_copy t = is_local_copy t || is_private_copy t

-- a cut between two kernels
abbrev pub is_then : Tree → Bool
is_then (Unary unary.Then t) = true
is_then _ = false

-- a cut between two kernels is in the term
abbrev pub has_then : Tree → Bool
has_then (Variable v) = false
has_then (Number n) = false
has_then (Input i) = false
has_then (Unary f t) = is_then (Unary f t) || has_then t
has_then (Binary f t u) = has_then t || has_then u
has_then (Select t u v) = has_then t || has_then u || has_then v
has_then (Let v b) = has_then v || has_then b
has_then (Map k xs b) = has_then xs || has_then b
has_then (Fold k xs s b) = has_then xs || has_then s || has_then b

-- the layouts that are written through: all but that which makes vectors of numbers
abbrev pub is_written_through : Layout → Bool
is_written_through layout.Join = true
is_written_through layout.Transpose = true
is_written_through (layout.Split m) = true
is_written_through layout.Reverse = true
is_written_through (layout.Stride m) = true
is_written_through layout.AsVector = false
is_written_through layout.AsScalar = true

-- seen through layouts that are written through and the bodies of lets, a map over a group's items
abbrev pub shows_local_map : Tree → Bool
shows_local_map (Unary (unary.Layout l) t) = is_written_through l && shows_local_map t
shows_local_map (Let v b) = shows_local_map b
shows_local_map (Map k xs b) = is_local k
shows_local_map _ = false

-- a copy of a map over a group's items
abbrev pub copies_local_map : Tree → Bool
copies_local_map (Unary f t) = shows_local_map t
copies_local_map _ = false

-- a let whose value is an element
abbrev pub is_let_of_element : Tree → Annotation → Bool
is_let_of_element (Let v b) (Two a n m) = is_element (type_in n)
is_let_of_element _ _ = false

-- a let whose value is none
abbrev pub is_let_of_array : Tree → Annotation → Bool
is_let_of_array (Let v b) (Two a n m) = not (is_element (type_in n))
is_let_of_array _ _ = false

-- zip, slide, pad, first, second, and the layout that makes vectors
abbrev pub is_read_alone : Tree → Bool
is_read_alone (Binary binary.Zip t u) = true
is_read_alone (Unary (unary.Slide s k) t) = true
is_read_alone (Unary (unary.Pad l r) t) = true
is_read_alone (Unary unary.First t) = true
is_read_alone (Unary unary.Second t) = true
is_read_alone (Unary (unary.Layout l) t) = not (is_written_through l)
is_read_alone _ = false

-- a variable, an input, a copy: what has its place in memory already
abbrev pub is_placed : Tree → Bool
is_placed (Variable v) = true
is_placed (Input i) = true
is_placed (Unary unary.ToLocal t) = true
is_placed (Unary unary.ToPrivate t) = true
is_placed _ = false
