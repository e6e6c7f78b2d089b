-- Pairs of maps: one along dimension 1, whose body is the same map along dimension 0.
use Rattle.std.specs.Prelude.{Bool, false, not, ◌&&◌, Option, Some, None, is_none, if◌then◌else◌}
use Rattle.lift_tree.specs.declared.layout.Layout.TheVariants as layout
use Rattle.lift_tree.specs.declared.term.UnaryForm.TheVariants as unary
use Rattle.lift_tree.specs.declared.term.Level.{Level}
use Rattle.lift_tree.specs.declared.term.Dimension.TheVariants.{X, Y}
use Rattle.lift_tree.specs.declared.term.MapKind.{MapKind}
use Rattle.lift_tree.specs.declared.term.MapKind.TheVariants.{Plain, Over, Sequential}
use Rattle.lift_tree.specs.Tree.{Tree, Unary, Map}
use Rattle.lowered_tree.specs.Kinds.{is_along_row, is_parallel, is_over_rows}

-- a map of this level along dimension 0, seen through join, split and transpose
abbrev pub shows_row : Level → Tree → Bool
shows_row l (Unary (unary.Layout (layout.Split m)) t) = shows_row l t
shows_row l (Unary (unary.Layout layout.Join) t) = shows_row l t
shows_row l (Unary (unary.Layout layout.Transpose) t) = shows_row l t
shows_row l (Map k xs b) = is_along_row l k
shows_row l _ = false

-- the level of the pair that a map of this kind with this body begins, where it begins one
abbrev pub pair_begun : MapKind → Tree → Option Level
pair_begun Plain b = None
pair_begun (Over l X) b = None
pair_begun (Over l Y) b = if shows_row l b then Some l else None
pair_begun Sequential b = None

-- the inner map of a pair that is due
abbrev pub is_awaited : (due : Option Level) → Tree → Bool
is_awaited (Some l) (Map k xs b) = is_along_row l k
is_awaited _ _ = false

-- a parallel map that is of no pair, where this inner map is due: one along dimension 1 that begins
-- none, or one along dimension 0 that isn't due
abbrev pub is_unpaired : (due : Option Level) → Tree → Bool
is_unpaired due (Map k xs b) =
    is_parallel k
    && (if is_over_rows k then is_none (pair_begun k b) else not (is_awaited due (Map k xs b)))
is_unpaired due _ = false
