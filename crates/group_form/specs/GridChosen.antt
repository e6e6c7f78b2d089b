-- Which maps over rows, and along them, need no loop, where the script fixes a local size of two
-- dimensions.
use Rattle.std.specs.Prelude.{ℕ, List, Option}
use Rattle.size_arith.specs.declared.names.Name.{Name}
use Rattle.size_arith.specs.declared.poly.Monomial.{Monomial}
use Rattle.size_arith.specs.Ranges.{AreNames, Admissible}
use Rattle.lift_tree.specs.Launches.{IsFixedSize}
use Rattle.kernel_tree.specs.Launch.{Launch}
use Rattle.lift_ir.specs.AtLaunch.{length_at}
use Rattle.group_form.specs.ChosenForms.{forms_of, row_forms_of}
use Rattle.group_form.specs.GridTerms.{GridForms}
use Rattle.group_form.specs.GridTheorem.{MakeGridTurns, TakeOne}

-- each dimension's maps by its own size
abbrev pub grid_forms_of : List Name → Option (ℕ × ℕ) → GridForms (List Monomial)
grid_forms_of names size = record { rows = row_forms_of names size; columns = forms_of names size }

-- at every admissible launch these forms make the maps' turns
abbrev pub GridFormsMakeTurns : Type 0
GridFormsMakeTurns =
    (names : List Name) (bases : List ℕ) (l : Launch) (size : Option (ℕ × ℕ))
    → AreNames names → Admissible names bases → IsFixedSize size l.local
    → MakeGridTurns (grid_forms_of names size) (length_at bases) l
    × TakeOne (grid_forms_of names size) (length_at bases) l
