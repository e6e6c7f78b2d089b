-- What a compiled kernel owes its program.
use Rattle.std.specs.Prelude.{◌≡◌, ◌<◌, ◌^◌, ℕ, List, Option, map, length}
use Rattle.kernel_tree.specs.Code.{Kernel}
use Rattle.kernel_tree.specs.KernelText.{IsKernelText, lift}
use Rattle.kernel_tree.specs.Launch.{Launch, Cells, MayStart}
use Rattle.lift_tree.specs.Launches.{Asks, IsAdmissibleLaunch, buffers_of, lists_of}
use Rattle.lift_tree.specs.Meaning.{World}
use Rattle.lift_tree.specs.Programs.{PlainProgram}
use Rattle.lift_tree.specs.Types.{PlainTy, HoldsElements}
use Rattle.lift_tree.specs.Typing.{HasOutput, IsAdmissible, declared_by}
use Rattle.size_arith.specs.declared.names.Name.{Name}
use Rattle.size_arith.specs.Ranges.{Admissible}
use Rattle.strategy_script.specs.Steps.{State}
use Rattle.lowered_tree.specs.Kinds.{asks_of}
use Rattle.printed_form.specs.Headline.{EveryRunKeeps, EveryRunLeaves}
use Rattle.printed_form.specs.Programs.{cell_owner}
use Rattle.value_lists.specs.Lists.{IsSmall, width}
use Rattle.program_source.specs.Program.{source_value}

-- A launch and cells at which a program may run, where the world has its sizes and inputs:
-- the launch is as it is asked for, the sizes are within their ranges and the inputs of their
-- types, the buffers hold the inputs, and there is one for each component of the output, of its
-- length. Outputs hold anything.
pub record Admits (p : PlainProgram) (output : PlainTy) (asks : Asks) (w : World) (l : Launch)
    (c : Cells) : Type 0 where
  pub world : IsAdmissible (declared_by p) w
  pub launch : IsAdmissibleLaunch (declared_by p).names asks w.bases l.global l.local
  pub sizes : l.sizes ≡ w.sizes
  pub inputs : c.ins ≡ buffers_of (declared_by p).inputs w.inputs
  pub outputs : map length c.outs ≡ map length (lists_of output (source_value p w))

-- The kernel may be started at every admissible launch: its parameters are the inputs' components,
-- the output's, and the sizes, in order.
abbrev pub Starts : PlainProgram → (output : PlainTy) → (asks : Asks) → Kernel → Type 0
Starts p output asks k =
    (w : World) (l : Launch) (c : Cells) → Admits p output asks w l c → MayStart k l c

-- At every admissible launch, on all inputs, whatever other memory holds, every run of the kernel
-- has no fault and at most the bound's events, writes each output cell at most once, and can stop
-- only with the source's value in the output buffers.
abbrev pub LeavesSource : PlainProgram → (output : PlainTy) → (asks : Asks) → Kernel → Type 0
LeavesSource p output asks k = (w : World) (l : Launch) (c : Cells) → Admits p output asks w l c
    → EveryRunLeaves k l c (lists_of output (source_value p w))

-- And each cell is written by its owner, which the last term tells.
abbrev pub MeetsSource : PlainProgram → (output : PlainTy) → (local : Option (ℕ × ℕ))
    → (last : State) → Kernel → Type 0
MeetsSource p output local last k =
    (w : World) (l : Launch) (c : Cells) → Admits p output (asks_of local last.tree) w l c
    → EveryRunKeeps k l c (cell_owner (declared_by p).names w.bases l last.tree last.types)
    (lists_of output (source_value p w))

-- Values of the output's type can be laid out in lists, at all admissible sizes.
pub record CanBeLaidOut (names : List Name) (output : PlainTy) : Type 0 where
  pub elements : HoldsElements output
  pub few : width output < 2 ^ 32
  pub small : (bases : List ℕ) → Admissible names bases → IsSmall bases 1 output

-- The text is of a kernel for the program: it may be started at every admissible launch, and every
-- run of it there leaves the program's value, which is of the output's type.
pub record IsTextFor (p : PlainProgram) (output : PlainTy) (asks : Asks)
    (text : List ℕ) : Type 0 where
  pub typed : HasOutput p p.body output
  pub laid_out : CanBeLaidOut (declared_by p).names output
  pub kernel : Kernel
  pub written : IsKernelText lift text kernel
  pub starts : Starts p output asks kernel
  pub leaves : LeavesSource p output asks kernel
