-- What holds of every kernel that is printed for a term.
use Rattle.std.specs.Prelude.{ℕ, ◌<◌, []}
use Rattle.kernel_tree.specs.Code.{Kernel}
use Rattle.kernel_tree.specs.Launch.{Launch, Cells}
use Rattle.lift_tree.specs.Tree.{Tree}
use Rattle.lift_tree.specs.Values.{nth}
use Rattle.lift_tree.specs.Meaning.{World, meaning}
use Rattle.lift_ir.specs.Types.{Ty, unflat}
use Rattle.lift_ir.specs.Terms.{Term}
use Rattle.lift_ir.specs.Scalars.{Scalars, HasScalars, lists_of}
use Rattle.lift_ir.specs.Sources.{Lowers}
use Rattle.lift_ir.specs.Owner.{owner}
use Rattle.printed_form.specs.Headline.{EveryRunKeeps}
use Rattle.printed_form.specs.Marks.{Marks}
use Rattle.printed_form.specs.Whole.{IsPrinted}

-- every run is without a fault, within its bound, writes each output cell once, by its owner, and
-- leaves the source value's lists
abbrev pub PrintedKernelsKeep : Type 0 → Type 0
PrintedKernelsKeep A =
    (num : A → ℕ) (l : Launch) (w : World) (source : Tree) (inputs : ℕ) (src : ℕ → Ty)
    (ins : ℕ → Marks) (sources : ℕ → Scalars) (t : Term A) (ty : Ty) (k : Kernel) (c : Cells)
    → Lowers num w 0 inputs source t
    → ((a : ℕ) → a < inputs → HasScalars (src a) (nth w.inputs a) (sources a))
    → IsPrinted l num src ins sources t ty k c
    → EveryRunKeeps k l c (λ a i. owner num l t (unflat ty i)) (lists_of ty (meaning w [] source))
