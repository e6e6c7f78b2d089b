-- What the printer asks of a typed term.
use Rattle.std.specs.Prelude.{ℕ, List, Option}
use Rattle.size_arith.specs.Ranges.{Admissible}
use Rattle.lift_tree.specs.Tree.{Tree}
use Rattle.lift_tree.specs.Typing.{Declared}
use Rattle.lift_tree.specs.Annotations.{Annotation}
use Rattle.kernel_tree.specs.Launch.{Launch}
use Rattle.lift_ir.specs.Lowering.{Written}
use Rattle.lift_ir.specs.Lowerable.{IsStaged}
use Rattle.lift_ir.specs.Fours.{KeepsFours}
use Rattle.lowered_tree.specs.Kind.{nest_kind}
use Rattle.lowered_tree.specs.Kinds.{asks_of}
use Rattle.lowered_tree.specs.declared.kind.NestKind.{NestKind}
use Rattle.lowered_tree.specs.declared.kind.NestKind.TheVariants.{Task, OverLaunch, OverGroups, OverGrid}
use Rattle.printed_form.specs.Programs.{FitsBuffers, IsLaunchOf, IsLowerableProgram, lowered_root}
use Rattle.group_form.specs.Kernels.{Printer, OfItems, OfGroups, OfGrids, StandsFor, StandsForLaunch}

-- it can be lowered at all admissible sizes, and all of it fits its buffers
pub record CanBeLowered (d : Declared) (t : Tree) (n : Annotation) : Type 0 where
  pub staged : IsStaged Written t n
  pub lowerable : (bases : List ℕ) → Admissible d.names bases → IsLowerableProgram d bases t n
  pub fits : (bases : List ℕ) → Admissible d.names bases → FitsBuffers d bases n

-- it can be lowered, and what it is lowered to can be printed by this printer, its vectors loaded
-- and stored as such, at every admissible launch, whatever local size is fixed
pub record IsPrintable (p : Printer) (d : Declared) (t : Tree) (n : Annotation) : Type 0 where
  pub can : CanBeLowered d t n
  pub stands : StandsFor p (lowered_root d.names t n)
  pub at_launch : (local : Option (ℕ × ℕ)) (bases : List ℕ) (l : Launch)
      → IsLaunchOf d (asks_of local t) bases t n l
      → StandsForLaunch p l (lowered_root d.names t n)
  pub fours : KeepsFours (lowered_root d.names t n)

-- the printer of a nest's kind
abbrev pub printer_of : NestKind → Printer
printer_of Task = OfItems
printer_of OverLaunch = OfItems
printer_of OverGroups = OfGroups
printer_of OverGrid = OfGrids

-- and of a term
abbrev pub printer_for : Tree → Printer
printer_for t = printer_of (nest_kind t)
