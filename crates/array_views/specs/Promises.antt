-- What holds of views.
use Rattle.std.specs.Prelude.{◌≡◌, ℕ, Bool, List}
use Rattle.kernel_tree.specs.Code.{Array}
use Rattle.lift_ir.specs.Types.{Ty, IsPosition}
use Rattle.printed_form.specs.Marks.{Mark}
use Rattle.index_expr.specs.Expression.{Expression}
use Rattle.array_views.specs.Views.{PlainView}
use Rattle.array_views.specs.Accesses.{access_at}
use Rattle.array_views.specs.Cells.{IsWithin, AreIndices, IsViewOf, marks_at, IsAccessTo, HasArrays, IsGoal, IsWholeGoal, IsCellOf}

-- at indices of a position's values, a view names the position's variable or cell; the cell's index
-- has the cell's number as its value, and no operation in it wraps
abbrev pub ViewsNameCells : Type 0
ViewsNameCells =
    (sizes variables : List ℕ) (v : PlainView) (t : Ty) (cs : List Bool) (is : List Expression)
    (q : List ℕ)
    → IsViewOf sizes variables v t → IsPosition t cs q → AreIndices sizes variables is q
    → IsAccessTo sizes variables (access_at v cs is) (marks_at sizes variables v cs q)

-- it lies within the array
abbrev pub CellsAreWithin : Type 0
CellsAreWithin =
    (sizes variables : List ℕ) (long : Array → ℕ) (v : PlainView) (t : Ty) (cs : List Bool)
    (q : List ℕ)
    → IsViewOf sizes variables v t → HasArrays sizes variables long v → IsPosition t cs q
    → IsWithin long (marks_at sizes variables v cs q)

-- different scalars go to different cells
abbrev pub GoalsDiffer : Type 0
GoalsDiffer =
    (sizes variables : List ℕ) (v : PlainView) (t : Ty) (cs ds : List Bool) (q p : List ℕ)
    → IsViewOf sizes variables v t → IsGoal v → IsPosition t cs q → IsPosition t ds p
    → marks_at sizes variables v cs q ≡ marks_at sizes variables v ds p → (cs ≡ ds) × (q ≡ p)

-- each cell is some scalar's
abbrev pub GoalsAreFull : Type 0
GoalsAreFull =
    (sizes variables : List ℕ) (v : PlainView) (t : Ty)
    → IsViewOf sizes variables v t → IsWholeGoal v → (m : Mark) → IsCellOf sizes variables v m
    → (cs : List Bool) × (q : List ℕ) × IsPosition t cs q
    × (marks_at sizes variables v cs q ≡ m)
