-- A program and a script, compiled.
use Rattle.std.specs.Prelude.{◌≡◌, ℕ, List, [], Option, Ok}
use Rattle.kernel_tree.specs.Code.{Kernel}
use Rattle.kernel_tree.specs.Device.{Cell}
use Rattle.kernel_tree.specs.KernelText.{IsKernelText, lift}
use Rattle.kernel_tree.specs.Launch.{Cells, Launch}
use Rattle.lift_tree.specs.Programs.{PlainProgram}
use Rattle.lift_tree.specs.Types.{PlainTy}
use Rattle.lift_tree.specs.Typing.{HasOutput, declared_by}
use Rattle.lift_tree.specs.Launches.{Asks}
use Rattle.lift_tree.specs.Meaning.{World}
use Rattle.lowered_tree.specs.Kinds.{asks_of}
use Rattle.group_phases.specs.Outcome.{BarriersServeAll}
use Rattle.kernel_emit.specs.Kernels as kernels
use Rattle.kernel_emit.specs.Kernels.{HasParameters, IsTidy, IsWithinMemory}
use Rattle.rewriting.specs.Keeps.{Keeps}
use Rattle.strategy_script.specs.LocalSize.{local_fixed}
use Rattle.strategy_script.specs.Steps.{State}
use Rattle.program_source.specs.Program.{IsRead}
use Rattle.compilation.specs.Legal.{IsAccepted, LegalOf}
use Rattle.compilation.specs.Meets.{Admits, MeetsSource, Starts}

-- at each admissible launch the kernel is printed for the last term, as its kind says
abbrev pub PrintsAtAll : PlainProgram → (local : Option (ℕ × ℕ)) → State → Kernel → Type 0
PrintsAtAll p local s k = kernels.PrintsAtAll (declared_by p) local s.tree s.types k

-- its barriers serve at every launch and on all cells at which the program may run: the items of a
-- group meet the same barriers with the same turn numbers, and between two releases with the local
-- flag each cell of a local array that is written is one item's
abbrev pub ServesAtAll : PlainProgram → (output : PlainTy) → (local : Option (ℕ × ℕ))
    → (last : State) → Kernel → Type 0
ServesAtAll p output local last k =
    (w : World) (l : Launch) (c : Cells) → Admits p output (asks_of local last.tree) w l c
    → (filler : Cell → ℕ) × BarriersServeAll k l c filler

-- The text is that of a kernel of the grammar, which is printed for the script's last term: a
-- legal one within the limits, of the program's type and value. Its parameters are a buffer for
-- each component of the program's inputs and of its output, and its sizes: at every admissible
-- launch the launch's, in order. An admissible launch has groups of the local size that the script
-- fixes, where it does. Its local arrays take at most 32,768 bytes, and an item's private ones have
-- at most 256 cells. And at every admissible launch, on all inputs, whatever other memory holds,
-- every run of it has no fault and at most the bound's events, writes each output cell at most
-- once, by its owner, and can stop only with the program's value, which is of the output's type.
-- The items of a group meet the same barriers with the same turn numbers, and between them use
-- local arrays apart. No part of an index or a bound is redundant, and none has more nodes than the
-- layouts' formulas put into one another.
pub record IsCompiled (program script : List ℕ) (p : PlainProgram) (output : PlainTy) (asks : Asks)
    (text : List ℕ) : Type 0 where
  pub read : IsRead program p
  pub typed : HasOutput p p.body output
  pub last : State
  pub legal : LegalOf p script (Ok last)
  pub accepted : IsAccepted p last.tree last.types
  pub asked : asks_of (local_fixed script) last.tree ≡ asks
  pub keeps : Keeps (declared_by p) [] p.body last.tree
  pub kernel : Kernel
  pub written : IsKernelText lift text kernel
  pub prints : PrintsAtAll p (local_fixed script) last kernel
  pub parameters : HasParameters (declared_by p) output kernel
  pub memory : IsWithinMemory kernel
  pub starts : Starts p output (asks_of (local_fixed script) last.tree) kernel
  pub meets : MeetsSource p output (local_fixed script) last kernel
  pub serve : ServesAtAll p output (local_fixed script) last kernel
  pub tidy : IsTidy (declared_by p) (local_fixed script) last.tree last.types kernel
