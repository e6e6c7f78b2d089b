-- The kernels of a program's typed term, and what holds of them, by either printer.
use Rattle.std.specs.Prelude.{ℕ, List, [], Option, ◌⊎◌, true}
use Rattle.size_arith.specs.declared.poly.Monomial.{Monomial}
use Rattle.lift_tree.specs.Tree.{Tree}
use Rattle.lift_tree.specs.Typing.{Declared, IsAdmissible}
use Rattle.lift_tree.specs.Annotations.{Annotation, type_in}
use Rattle.lift_tree.specs.Meaning.{World, meaning}
use Rattle.lift_tree.specs.Launches.{Asks, lists_of}
use Rattle.kernel_tree.specs.Alike.{GoesAlike}
use Rattle.kernel_tree.specs.Code.{Kernel}
use Rattle.kernel_tree.specs.Device.{Cell, State, device_of, IsStart}
use Rattle.kernel_tree.specs.Formula.{Formula}
use Rattle.kernel_tree.specs.Launch.{Launch, Cells, MayStart}
use Rattle.barrier_placement.specs.Fencing.{Fencing}
use Rattle.barrier_placement.specs.Needed.{Needed}
use Rattle.lift_ir.specs.Forms.{Stands, StandsOverLaunch}
use Rattle.lift_ir.specs.Fours.{KeepsFours}
use Rattle.lift_ir.specs.Lowerable.{IsStaged}
use Rattle.lift_ir.specs.Lowering.{Lowered, Written}
use Rattle.printed_form.specs.Headline.{EveryRunKeeps}
use Rattle.printed_form.specs.Programs.{lowered_root, cell_owner, AreBuffersOf, FitsBuffers, IsLaunchOf, IsLowerableProgram, IsSpelling, Prints, printed_kernel, SameContents, StandsAt}
use Rattle.group_phases.specs.Outcome.{BarriersServeAll}
use Rattle.group_form.specs.ChosenForms.{forms_of}
use Rattle.group_form.specs.Form.{is_once}
use Rattle.group_form.specs.Forms.{StandsOverGroups}
use Rattle.group_form.specs.Printer.{printed_group_kernel}
use Rattle.group_form.specs.GridChosen.{grid_forms_of}
use Rattle.group_form.specs.GridPrinter.{printed_grid_kernel}
use Rattle.group_form.specs.GridTerms.{StandsOverGrid, grid_touches}
use Rattle.group_form.specs.GridTheorem.{is_once_over, grid_phase_count}
use Rattle.group_form.specs.Programs.{PrintsGroups, PrintsGrids}
use Rattle.group_form.specs.Uses.{phase_count, group_touches}

-- the printer of terms that work-items run each by itself, and that of maps over work-groups, whose
-- items work together
pub data Printer : Type 0 where
  OfItems : Printer
  OfGroups : Printer
  OfGrids : Printer

-- the terms that it prints: for one work-item or over the launch, or over work-groups
abbrev pub StandsFor : Printer → Lowered → Type 0
StandsFor OfItems t = Stands true t ⊎ StandsOverLaunch t
StandsFor OfGroups t = StandsOverGroups t
StandsFor OfGrids t = StandsOverGrid t

-- and at a launch, which is of one work-item where there is no map over the launch or over groups
abbrev pub StandsForLaunch : Printer → Launch → Lowered → Type 0
StandsForLaunch OfItems l t = StandsAt l t
StandsForLaunch OfGroups l t = StandsOverGroups t
StandsForLaunch OfGrids l t = StandsOverGrid t

-- the barriers that it needs, where this local size is fixed; for single items none matters
abbrev pub AreNeededBy : Printer → Declared → (local : Option (ℕ × ℕ)) → (fence : ℕ → Fencing) → Tree
    → Annotation → Type 0
AreNeededBy OfItems d local fence t a = Unit {0}
AreNeededBy OfGroups d local fence t a =
    Needed (group_touches (lowered_root d.names t a))
    (is_once (forms_of d.names local) (lowered_root d.names t a))
    (phase_count (lowered_root d.names t a)) fence
AreNeededBy OfGrids d local fence t a =
    Needed (grid_touches (lowered_root d.names t a))
    (is_once_over (grid_forms_of d.names local) (lowered_root d.names t a))
    (grid_phase_count (lowered_root d.names t a)) fence

-- the kernel that it makes of the typed term, where lengths are spelled so
abbrev pub kernel_by : Printer → (List Monomial → Formula) → (fence : ℕ → Fencing) → Declared
    → (local : Option (ℕ × ℕ)) → Tree → Annotation → Kernel
kernel_by OfItems spell fence = printed_kernel spell
kernel_by OfGroups spell fence = printed_group_kernel spell fence
kernel_by OfGrids spell fence = printed_grid_kernel spell fence

-- the kernel is printed for the typed term at a launch, where the base names have these values
abbrev pub PrintsBy : Printer → Declared → (local : Option (ℕ × ℕ)) → (bases : List ℕ) → Tree
    → Annotation → Launch → Kernel → Type 0
PrintsBy OfItems = Prints
PrintsBy OfGroups = PrintsGroups
PrintsBy OfGrids = PrintsGrids

-- with the needed barriers, what the printer makes of a typed term is printed for it, at each
-- admissible launch
abbrev pub KernelsArePrinted : Type 0
KernelsArePrinted =
    (p : Printer) (d : Declared) (asks : Asks) (bases : List ℕ) (t : Tree) (a : Annotation)
    (l : Launch) (spell : List Monomial → Formula) (fence : ℕ → Fencing)
    → IsLowerableProgram d bases t a → IsLaunchOf d asks bases t a l → IsStaged Written t a
    → StandsForLaunch p l (lowered_root d.names t a) → KeepsFours (lowered_root d.names t a)
    → FitsBuffers d bases a → IsSpelling spell bases l → AreNeededBy p d asks.local fence t a
    → PrintsBy p d asks.local bases t a l (kernel_by p spell fence d asks.local t a)

-- at each admissible launch, on all inputs, every run of a kernel that is printed for a typed term
-- keeps what the kernel owes, with the source value
abbrev pub KernelsKeep : Type 0
KernelsKeep =
    (p : Printer) (d : Declared) (asks : Asks) (w : World) (t : Tree) (a : Annotation) (l : Launch)
    (k : Kernel) (c : Cells)
    → IsLowerableProgram d w.bases t a → StandsForLaunch p l (lowered_root d.names t a)
    → IsAdmissible d w → IsLaunchOf d asks w.bases t a l → AreBuffersOf d w t a c
    → PrintsBy p d asks.local w.bases t a l k
    → EveryRunKeeps k l c (cell_owner d.names w.bases l t a) (lists_of (type_in a) (meaning w [] t))

-- its barriers serve: of single items there are none, and no local arrays
abbrev pub KernelsServe : Type 0
KernelsServe =
    (p : Printer) (d : Declared) (asks : Asks) (w : World) (t : Tree) (a : Annotation) (l : Launch)
    (k : Kernel) (c : Cells)
    → IsLowerableProgram d w.bases t a → StandsForLaunch p l (lowered_root d.names t a)
    → IsAdmissible d w → IsLaunchOf d asks w.bases t a l → AreBuffersOf d w t a c
    → PrintsBy p d asks.local w.bases t a l k
    → (filler : Cell → ℕ) × BarriersServeAll k l c filler

-- and it may be started there
abbrev pub KernelsStart : Type 0
KernelsStart =
    (p : Printer) (d : Declared) (asks : Asks) (w : World) (t : Tree) (a : Annotation) (l : Launch)
    (k : Kernel) (c : Cells)
    → IsLowerableProgram d w.bases t a → StandsForLaunch p l (lowered_root d.names t a)
    → IsAdmissible d w → IsLaunchOf d asks w.bases t a l → AreBuffersOf d w t a c
    → PrintsBy p d asks.local w.bases t a l k → MayStart k l c

-- any two kernels that are printed for one typed term go alike at one launch and from the same
-- contents: the same events can come, with the same accesses, and each schedule makes the same run
-- of both
abbrev pub KernelsGoAlike : Type 0
KernelsGoAlike =
    (p : Printer) (d : Declared) (asks : Asks) (w : World) (t : Tree) (a : Annotation) (l : Launch)
    (k m : Kernel) (c : Cells) (s r : State)
    → IsLowerableProgram d w.bases t a → StandsForLaunch p l (lowered_root d.names t a)
    → IsAdmissible d w → IsLaunchOf d asks w.bases t a l → AreBuffersOf d w t a c
    → PrintsBy p d asks.local w.bases t a l k → PrintsBy p d asks.local w.bases t a l m
    → IsStart k l c s → IsStart m l c r → SameContents l s r
    → GoesAlike (device_of k l c) s (device_of m l c) r
