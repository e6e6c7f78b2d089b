-- At which offsets vectors of an array are loaded and stored that no other layout rearranges.
use Rattle.std.specs.Prelude.{◌≡◌, ℕ, true, Bool, List, [], Option}
use Rattle.kernel_tree.specs.Formula.{Formula}
use Rattle.kernel_tree.specs.Code.{Array, Code, Performs, LoadsFour, StoresFour}
use Rattle.lift_ir.specs.Types.{Scalar, ArrayOf, four}
use Rattle.lift_ir.specs.Layouts.{Split, Join}
use Rattle.lift_ir.specs.Terms.{TakeFour}
use Rattle.printed_form.specs.Counts.{Count}
use Rattle.printed_form.specs.Expressions.{Expr}
use Rattle.printed_form.specs.Views.{same_formula, view_at, reshaped_view, rewritten_view, placed_view}
use Rattle.printed_form.specs.Printer.{or_lanes, print_loaded, print_stored}

-- An array of numbers, read as one of vectors and written from one, and an array of vectors: the
-- vector at an index is loaded from that offset, and stored there. So it is for each index of the
-- forms that indices have, such as a loop's variable.
pub record AreAtTheirIndices {A : Type 0} (spell : A → Formula) (form : ℕ → Array) (first : ℕ)
    (i : Formula) : Type 0 where
  pub loads : (n m : A) (v : Count) (rest : Code) → same_formula (spell m) (spell m) ≡ true
      → print_loaded TakeFour
      (view_at i (reshaped_view spell (Split m) (placed_view spell form first (ArrayOf n Scalar))))
      v rest
      ≡ Performs (LoadsFour v.fours (form first) i) rest
  pub stores : (n m : A) (f : List Bool → Option Expr) (rest : Code)
      → same_formula (spell m) (spell m) ≡ true
      → print_stored four f
      (view_at i (rewritten_view spell (Join m) (placed_view spell form first (ArrayOf n Scalar))))
      rest
      ≡ Performs (StoresFour (form first) i (or_lanes (f []))) rest
  pub vectors : (n m : A) (v : Count) (rest : Code)
      → print_loaded TakeFour
      (view_at i (placed_view spell form first (ArrayOf n (ArrayOf m Scalar)))) v rest
      ≡ Performs (LoadsFour v.fours (form first) i) rest

-- so it is wherever the array lies
abbrev pub VectorsAreAtTheirIndices : Type 0 → Type 0
VectorsAreAtTheirIndices A =
    (spell : A → Formula) (form : ℕ → Array) (first : ℕ) (i : Formula)
    → same_formula i i ≡ true → AreAtTheirIndices spell form first i
