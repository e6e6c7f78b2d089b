-- What the printer owes.
use Rattle.std.specs.Prelude.{◌≡◌, ℕ, ◌<◌, ◌^◌, ◌⊎◌, true}
use Rattle.kernel_tree.specs.Formula.{Formula}
use Rattle.kernel_tree.specs.Launch.{Launch, item_count}
use Rattle.lift_ir.specs.Types.{Shape, measured, IsPlaced}
use Rattle.lift_ir.specs.Terms.{Term, HasType, no_type}
use Rattle.lift_ir.specs.Loads.{none, LoadsSuffice}
use Rattle.lift_ir.specs.Forms.{Stands, StandsOverLaunch}
use Rattle.lift_ir.specs.Fours.{KeepsFours}
use Rattle.printed_form.specs.Whole.{IsCode}
use Rattle.printed_form.specs.Means.{IsSpelled}
use Rattle.printed_form.specs.Printer.{input_marks, kernel_code}

-- at each launch, of one work-item where there is no map over the launch, where the lengths'
-- spellings have their values, the code is printed for the term; the code is one for all launches
abbrev pub PrinterPrints : Type 0 → Type 0
PrinterPrints A =
    (l : Launch) (num : A → ℕ) (spell : A → Formula)
    → ((n : A) → num n < 2 ^ 31 → IsSpelled l (spell n) (num n)) → (first : ℕ → ℕ)
    (src : ℕ → Shape A) (t : Term A) (ty : Shape A) → ((item_count l ≡ 1) × Stands true t)
    ⊎ StandsOverLaunch t
    → KeepsFours t → HasType num (λ v. measured num (src v)) no_type t (measured num ty)
    → LoadsSuffice (λ v. none) t → IsPlaced num ty → ((v : ℕ) → IsPlaced num (src v))
    → IsCode l (input_marks num first src) num t (measured num ty)
    (kernel_code spell first src t ty)
