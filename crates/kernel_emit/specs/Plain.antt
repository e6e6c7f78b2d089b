-- The kernels that the printers make of a term, with indices as they arise.
use Rattle.std.specs.Prelude.{◌≡◌, ℕ, Option}
use Rattle.kernel_tree.specs.Code.{Kernel}
use Rattle.lift_tree.specs.Annotations.{Annotation}
use Rattle.lift_tree.specs.Tree.{Tree}
use Rattle.lift_tree.specs.Typing.{Declared}
use Rattle.barrier_placement.specs.Fencing.{Fencing}
use Rattle.group_form.specs.Kernels.{AreNeededBy}
use Rattle.nest_premises.specs.Printable.{printer_for}
use Rattle.kernel_premises.specs.Terms.{kernel_for}

-- made by the printer of the term's kind, with the barriers that it needs
abbrev pub IsPlainFor : Declared → (local : Option (ℕ × ℕ)) → Tree → Annotation → Kernel → Type 0
IsPlainFor d local t n k =
    (fence : ℕ → Fencing) × AreNeededBy (printer_for t) d local fence t n
    × (k ≡ kernel_for (printer_for t) d local fence t n)
