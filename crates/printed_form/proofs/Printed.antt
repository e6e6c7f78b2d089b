-- The printer's code for a whole term is one that is printed for it.
use Rattle.std.proofs.Common.{ℕ, ◌<◌, ◌^◌, [], ◌∷◌, refl, inl, inr, ⊎_elim, arith}
use Rattle.kernel_tree.specs.Formula.{Formula}
use Rattle.kernel_tree.specs.Code.{Array, Input, Output, End}
use Rattle.kernel_tree.specs.Launch.{Launch}
use Rattle.lift_ir.specs.Terms.{no_type}
use Rattle.lift_ir.specs.Fours.{Whole, no_lie}
use Rattle.printed_form.specs.Whole.{no_marks, output_marks}
use Rattle.lift_ir.specs.Loads.{none}
use Rattle.printed_form.specs.Counts.{no_variables}
use Rattle.printed_form.specs.Marks.{laid_in}
use Rattle.printed_form.specs.Means.{IsSpelled, HasCells, IsWhole, AllShow}
use Rattle.printed_form.specs.Views.{placed_view}
use Rattle.printed_form.specs.Printer.{no_view, input_views, input_marks}
use Rattle.lift_ir.specs.Types.{Shape, measured, IsPlaced}
use Rattle.printed_form.specs.PrinterLaw.{PrinterPrints}
use Rattle.printed_form.proofs.Indices.{placed_cells, placed_whole}
use Rattle.printed_form.proofs.Held.{HeldIn}
use Rattle.printed_form.proofs.Shown.{cells_show}
use Rattle.printed_form.proofs.Printer.{written_is, over_launch_is}

-- no binder stands for anything around the whole term
pub nothing_shown : (l : Launch) (item : ℕ) → AllShow l item [] no_lie no_type no_view no_marks
nothing_shown l item v us cs is [] w g = absurd w
nothing_shown l item v us cs is (i ∷ q) w g = let z = w.0 in absurd (omega arith)

pub nothing_held : HeldIn no_type no_view no_marks (λ v. none)
nothing_held v cs w h = absurd (cc)

module _ (l : Launch) (item : ℕ) {A : Type 0} (num : A → ℕ) (spell : A → Formula) (spelled : (n : A) → num n < 2 ^ 31 → IsSpelled l (spell n) (num n)) where
  -- what lies in arrays has cells, and lies whole
  place : (form : ℕ → Array) (first : ℕ) (t : Shape A) → IsPlaced num t → HasCells l item [] (measured num t) (placed_view spell form first t) (laid_in form first (measured num t))
  place form first t p = placed_cells l item num spell spelled [] form first t p.flat p.short p.small

  laid : (form : ℕ → Array) (first : ℕ) (t : Shape A) → IsPlaced num t → IsWhole l item [] (measured num t) (placed_view spell form first t) (laid_in form first (measured num t))
  laid form first t p = placed_whole l item num spell spelled [] form first t p.short p.small

  inputs_show : (first : ℕ → ℕ) (src : ℕ → Shape A) → ((v : ℕ) → IsPlaced num (src v)) → AllShow l item [] (λ v. Whole) (λ v. measured num (src v)) (input_views spell first src) (input_marks num first src)
  inputs_show first src ps v = (cells_show l item [] (measured num (src v)) _ _ (place Input (first v) (src v) (ps v)), laid Input (first v) (src v) (ps v))

pub code_is : (A : Type 0) → PrinterPrints A
code_is A l num spell spelled first src t ty kind fours ok nm out inputs =
    let types = λ (v : ℕ). measured num (src v) in
    let ins = input_marks num first src in
    let sins = input_views spell first src in
    ⊎_elim
    (λ k. inl (
      k.0,
      written_is l 0 num spell spelled types ins sins t [] 0 no_lie no_type no_view no_marks (λ v. none) 0 no_variables (measured num ty) Whole (placed_view spell Output 0 ty) (output_marks (measured num ty)) End refl ok nm k.1 fours (nothing_shown l 0) (inputs_show l 0 num spell spelled first src inputs) nothing_held (place l 0 num spell spelled Output 0 ty out) (laid l 0 num spell spelled Output 0 ty out),
    ))
    (λ k. inr (λ item lt.
    over_launch_is l item num spell spelled types ins sins t no_lie no_type no_view no_marks (λ v. none) 0 no_variables (measured num ty) Whole (placed_view spell Output 0 ty) (output_marks (measured num ty)) End ok nm k fours (nothing_shown l item) (inputs_show l item num spell spelled first src inputs) nothing_held (place l item num spell spelled Output 0 ty out) (laid l item num spell spelled Output 0 ty out)))
    kind
