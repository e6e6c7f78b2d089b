-- The kernels that the printers of maps over work-groups make, in one dimension and in two, are of
-- the kernel grammar.
use Rattle.std.specs.Prelude.{◌≡◌, ℕ, ◌+◌, ◌*◌, ◌≤◌, Bool, true, ◌||◌, List, Option}
use Rattle.size_arith.specs.declared.poly.Monomial.{Monomial}
use Rattle.lift_tree.specs.Tree.{Tree}
use Rattle.lift_tree.specs.Annotations.{Annotation, type_in}
use Rattle.lift_tree.specs.LocalSizes.{IsLocalSize}
use Rattle.lift_tree.specs.Typing.{Declared}
use Rattle.kernel_tree.specs.Formula.{Formula}
use Rattle.kernel_tree.specs.Code.{Kernel}
use Rattle.kernel_tree.specs.Grammar.{is_kernel}
use Rattle.barrier_placement.specs.declared.touches.Touch.{Touch}
use Rattle.barrier_placement.specs.Fencing.{Fencing, Open, Fenced}
use Rattle.barrier_placement.specs.Needed.{Needed}
use Rattle.lift_ir.specs.AtLaunch.{shape_of}
use Rattle.lift_ir.specs.Fours.{KeepsFours}
use Rattle.printed_form.specs.Programs.{lowered_root}
use Rattle.printed_form.specs.Sound.{IsSpelledIn, AllLengths, IsWrittenWithin, dimensions, loop_depth, AreLow, CanBeWritten}
use Rattle.printed_form.specs.KernelGrammar.{IsSoundIn}
use Rattle.group_form.specs.Forms.{StandsOverGroups}
use Rattle.group_form.specs.Uses.{phase_count}
use Rattle.group_form.specs.Printer.{printed_group_kernel}
use Rattle.group_form.specs.GridPrinter.{printed_grid_kernel}
use Rattle.group_form.specs.GridTerms.{StandsOverGrid}
use Rattle.group_form.specs.GridTheorem.{grid_phase_count}

-- a barrier that stands has a flag
abbrev pub IsFlagged : Fencing → Type 0
IsFlagged Open = Unit {0}
IsFlagged (Fenced on_local on_global) = (on_local || on_global) ≡ true

-- A typed term is printed within the grammar as this kernel, in so many phases: barriers have
-- flags; something is stored wherever it is written; its numbers are words, its lengths and inputs
-- are spelled in the grammar, at most so high; its vectors lie in no private array;
-- at most so many layouts stand one on another; element terms and loops don't nest too deep; groups
-- may have the size that is fixed.
pub record IsFencedWithin (k : Kernel) (phases : ℕ) (spell : List Monomial → Formula)
    (fence : ℕ → Fencing) (high most : ℕ) (d : Declared) (local : Option (ℕ × ℕ)) (t : Tree)
    (a : Annotation) : Type 0 where
  pub size : IsLocalSize local
  pub some : 1 ≤ high
  pub fits : high + (10 + 3 * most) ≤ 1024
  pub flagged : (q : ℕ) → q ≤ phases → IsFlagged (fence q)
  pub written : CanBeWritten (lowered_root d.names t a)
  pub sound : IsSoundIn k spell high d (lowered_root d.names t a)
  pub fours : KeepsFours (lowered_root d.names t a)
  pub layouts : IsWrittenWithin most (λ v. 0) 0 (lowered_root d.names t a)
  pub low : AreLow 1023 (lowered_root d.names t a)
  pub loops : loop_depth (lowered_root d.names t a) ≤ 1024
  pub lengths : AllLengths (λ n. IsSpelledIn k high (spell n)) (shape_of (type_in a))
  pub few : dimensions (shape_of (type_in a)) ≤ 5

-- a map over work-groups that is
abbrev pub IsGroupPrintedWithin : (spell : List Monomial → Formula) → (fence : ℕ → Fencing)
    → (high most : ℕ) → Declared → (local : Option (ℕ × ℕ)) → Tree → Annotation → Type 0
IsGroupPrintedWithin spell fence high most d local t a =
    StandsOverGroups (lowered_root d.names t a)
    × IsFencedWithin (printed_group_kernel spell fence d local t a)
    (phase_count (lowered_root d.names t a)) spell fence high most d local t a

-- and one over rows of work-groups
abbrev pub IsGridPrintedWithin : (spell : List Monomial → Formula) → (fence : ℕ → Fencing)
    → (high most : ℕ) → Declared → (local : Option (ℕ × ℕ)) → Tree → Annotation → Type 0
IsGridPrintedWithin spell fence high most d local t a =
    StandsOverGrid (lowered_root d.names t a)
    × IsFencedWithin (printed_grid_kernel spell fence d local t a)
    (grid_phase_count (lowered_root d.names t a)) spell fence high most d local t a

-- the kernel printed for such a term is of the grammar
abbrev pub GroupKernelsAreOfTheGrammar : Type 0
GroupKernelsAreOfTheGrammar =
    (spell : List Monomial → Formula) (fence : ℕ → Fencing) (high most : ℕ) (d : Declared)
    (local : Option (ℕ × ℕ)) (t : Tree) (a : Annotation)
    → IsGroupPrintedWithin spell fence high most d local t a
    → is_kernel (printed_group_kernel spell fence d local t a) ≡ true

-- so is the one in two dimensions
abbrev pub GridKernelsAreOfTheGrammar : Type 0
GridKernelsAreOfTheGrammar =
    (spell : List Monomial → Formula) (fence : ℕ → Fencing) (high most : ℕ) (d : Declared)
    (local : Option (ℕ × ℕ)) (t : Tree) (a : Annotation)
    → IsGridPrintedWithin spell fence high most d local t a
    → is_kernel (printed_grid_kernel spell fence d local t a) ≡ true

-- needed barriers have flags
abbrev pub NeededAreFlagged : Type 0
NeededAreFlagged =
    (touches : List Touch) (once : Bool) (n : ℕ) (fence : ℕ → Fencing)
    → Needed touches once n fence → (q : ℕ) → q ≤ n → IsFlagged (fence q)
