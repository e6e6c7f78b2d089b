-- What the kernel of a term owes.
use Rattle.std.specs.Prelude.{◌≡◌, ◌*◌, ◌≤◌, ℕ, List, [], length, Option}
use Rattle.std.specs.List.{sum}
use Rattle.kernel_tree.specs.Code.{Kernel}
use Rattle.kernel_tree.specs.Device.{Cell}
use Rattle.kernel_tree.specs.Launch.{Cells, Launch, MayStart}
use Rattle.lift_tree.specs.Annotations.{Annotation, type_in}
use Rattle.lift_tree.specs.Launches.{lists_of}
use Rattle.lift_tree.specs.Meaning.{World, meaning}
use Rattle.lift_tree.specs.Tree.{Tree}
use Rattle.lift_tree.specs.Types.{PlainTy}
use Rattle.lift_tree.specs.Typing.{Declared, IsAdmissible}
use Rattle.lift_ir.specs.AtLaunch.{shape_of}
use Rattle.lift_ir.specs.Types.{width}
use Rattle.lowered_tree.specs.Kinds.{asks_of}
use Rattle.printed_form.specs.Headline.{EveryRunKeeps}
use Rattle.printed_form.specs.Programs.{AreBuffersOf, IsLaunchOf, buffer_count, cell_owner}
use Rattle.group_phases.specs.Outcome.{BarriersServeAll}
use Rattle.group_form.specs.Kernels.{PrintsBy}
use Rattle.nest_premises.specs.Printable.{printer_for}
use Rattle.tidy_printed.specs.Tidy.{IsTidyFor}

-- at each admissible launch, of groups of the local size that is fixed, the kernel is printed for
-- the term, by the printer of its kind
abbrev pub PrintsAtAll : Declared → (local : Option (ℕ × ℕ)) → Tree → Annotation → Kernel → Type 0
PrintsAtAll d local t n k =
    (bases : List ℕ) (l : Launch) → IsLaunchOf d (asks_of local t) bases t n l
    → PrintsBy (printer_for t) d local bases t n l k

-- it may be started there
abbrev pub StartsTerm : Declared → (local : Option (ℕ × ℕ)) → Tree → Annotation → Kernel → Type 0
StartsTerm d local t n k =
    (w : World) (l : Launch) (c : Cells) → IsAdmissible d w
    → IsLaunchOf d (asks_of local t) w.bases t n l → AreBuffersOf d w t n c → MayStart k l c

-- and every run there keeps what a kernel owes, with the term's value
abbrev pub KeepsTerm : Declared → (local : Option (ℕ × ℕ)) → Tree → Annotation → Kernel → Type 0
KeepsTerm d local t n k =
    (w : World) (l : Launch) (c : Cells) → IsAdmissible d w
    → IsLaunchOf d (asks_of local t) w.bases t n l → AreBuffersOf d w t n c
    → EveryRunKeeps k l c (cell_owner d.names w.bases l t n) (lists_of (type_in n) (meaning w [] t))

-- and its barriers serve in every run there: the items of a group meet the same barriers with the
-- same turn numbers, and between two releases with the local flag each cell of a local array that
-- is written is one item's
abbrev pub ServesTerm : Declared → (local : Option (ℕ × ℕ)) → Tree → Annotation → Kernel → Type 0
ServesTerm d local t n k =
    (w : World) (l : Launch) (c : Cells) → IsAdmissible d w
    → IsLaunchOf d (asks_of local t) w.bases t n l → AreBuffersOf d w t n c
    → (filler : Cell → ℕ) × BarriersServeAll k l c filler

-- no part of an index, of an offset of four or of a bound is redundant, an index of a load or a
-- store has no more nodes than the formulas of its array and of the term's layouts put into one
-- another, an offset no more than the index of its vector or of the first scalar by 4, and a bound
-- no more than its length, with lengths counted in short
abbrev pub IsTidy : Declared → (local : Option (ℕ × ℕ)) → Tree → Annotation → Kernel → Type 0
IsTidy = IsTidyFor

-- the parameters: a buffer for each component of the inputs, one for each
-- component of the output, and each size
pub record HasParameters (d : Declared) (output : PlainTy) (k : Kernel) : Type 0 where
  pub inputs : k.inputs ≡ buffer_count d.inputs
  pub outputs : k.outputs ≡ width (shape_of output)
  pub sizes : k.sizes ≡ length d.names

-- the local arrays take at most 32,768 bytes, four a cell, and the private arrays of a
-- work-item have at most 256 cells
pub record IsWithinMemory (k : Kernel) : Type 0 where
  pub local_bytes : 4 * sum k.locals ≤ 32768
  pub private_cells : sum k.privates ≤ 256

-- the kernel is the term's: printed for it, with its value, barriers that
-- serve and its parameters, and tidy
pub record IsKernelFor (d : Declared) (local : Option (ℕ × ℕ)) (t : Tree) (n : Annotation)
    (k : Kernel) : Type 0 where
  pub prints : PrintsAtAll d local t n k
  pub starts : StartsTerm d local t n k
  pub keeps : KeepsTerm d local t n k
  pub serve : ServesTerm d local t n k
  pub tidy : IsTidy d local t n k
  pub parameters : HasParameters d (type_in n) k
  pub memory : IsWithinMemory k
