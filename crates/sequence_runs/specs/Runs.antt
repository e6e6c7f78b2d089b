-- Runs of kernels in order, each from the buffers that the one before left, and what they owe.
use Rattle.std.specs.Prelude.{◌≡◌, ℕ, ◌+◌, ◌<◌, List, [], ◌∷◌, ◌++◌, length, map, slice_index, Option}
use Rattle.kernel_tree.specs.declared.events.Event.{Event}
use Rattle.kernel_tree.specs.Code.{Input, Kernel}
use Rattle.kernel_tree.specs.Device.{Device, State, IsStart, IsRun, IsStuck, device_of, row, run}
use Rattle.kernel_tree.specs.Launch.{Cells, Launch, MayStart}
use Rattle.size_arith.specs.Ranges.{sizes_at}
use Rattle.lift_tree.specs.Annotations.{Annotation, type_in}
use Rattle.lift_tree.specs.Launches.{IsAdmissibleLaunch, buffers_of, lists_of}
use Rattle.lift_tree.specs.Meaning.{World, meaning}
use Rattle.lift_tree.specs.Tree.{Tree}
use Rattle.lift_tree.specs.Types.{HasType, PlainTy}
use Rattle.lift_tree.specs.Typing.{Declared, IsAdmissible}
use Rattle.lift_tree.specs.Values.{Value}
use Rattle.lowered_tree.specs.Kinds.{asks_of}
use Rattle.value_lists.specs.Lists.{list_lengths}
use Rattle.printed_form.specs.Headline.{KeepsHeadline, output_cell}
use Rattle.printed_form.specs.Programs.{cell_owner}

-- a kernel of a sequence, with the term that it is made for and what this may name
pub record Stage : Type 0 where
  pub declared : Declared
  pub tree : Tree
  pub types : Annotation
  pub kernel : Kernel

-- a run of a kernel: its launch, what its buffers hold at first, the state in which it begins, and
-- its events
pub record StageRun : Type 0 where
  pub launch : Launch
  pub cells : Cells
  pub state : State
  pub events : List Event

-- what the run takes place on
abbrev pub device : Stage → StageRun → Device
device k r = device_of k.kernel r.launch r.cells

-- the state that the run comes to
abbrev pub left : Stage → StageRun → State
left k r = run (device k r) r.state r.events

-- A run of a kernel: its launch is admissible where the base names have these values, the buffers
-- of its output are as long as its term's type says and hold anything, as does all other memory
-- but its inputs.
pub record IsStageRun (local : Option (ℕ × ℕ)) (bases : List ℕ) (k : Stage)
    (r : StageRun) : Type 0 where
  pub launch : IsAdmissibleLaunch k.declared.names (asks_of local k.tree) bases
      r.launch.global r.launch.local
  pub sizes : r.launch.sizes ≡ sizes_at k.declared.names bases
  pub outputs : map length r.cells.outs ≡ list_lengths bases (type_in k.types)
  pub start : IsStart k.kernel r.launch r.cells r.state
  pub run : IsRun (device k r) r.state r.events

-- these cells have as inputs the run's inputs and then its outputs, and hold what the run left
-- there
pub record Passes (k : Stage) (r : StageRun) (c : Cells) : Type 0 where
  pub shape : map length c.ins ≡ map length (r.cells.ins ++ r.cells.outs)
  pub inputs : (a i : ℕ) → i < length (row r.cells.ins a)
      → slice_index (row c.ins a) i
      ≡ (left k r).memory (record { array = Input a; home = 0; index = i })
  pub outputs : (a i : ℕ) → i < length (row r.cells.outs a)
      → slice_index (row c.ins (length r.cells.ins + a)) i ≡ (left k r).memory (output_cell a i)

-- a run begins after the one before it stopped, from the buffers that it left
abbrev pub GoesOver : Stage → StageRun → List StageRun → Type 0
GoesOver k r [] = Unit {0}
GoesOver k r (next ∷ rs) = IsStuck (device k r) (left k r) × Passes k r next.cells

-- runs of the first kernels in order, each from the buffers that the one before left after it
-- stopped, with one valuation; the last run may be unfinished
abbrev pub AreRuns : (local : Option (ℕ × ℕ)) → (bases : List ℕ) → List Stage → List StageRun
    → Type 0
AreRuns local bases ks [] = Unit {0}
AreRuns local bases [] (r ∷ rs) = ⊥
AreRuns local bases (k ∷ ks) (r ∷ rs) =
    IsStageRun local bases k r × GoesOver k r rs × AreRuns local bases ks rs

-- the first run's buffers hold these inputs
abbrev pub BeginsWith : List (List ℕ) → List StageRun → Type 0
BeginsWith buffers [] = Unit {0}
BeginsWith buffers (r ∷ rs) = r.cells.ins ≡ buffers

-- the kernel may be started, and its run keeps what a kernel owes, with the lists of this value of
-- this type
pub record StageKeeps (bases : List ℕ) (k : Stage) (r : StageRun) (a : PlainTy)
    (v : Value) : Type 0 where
  pub starts : MayStart k.kernel r.launch r.cells
  pub keeps : KeepsHeadline k.kernel r.launch r.cells
      (cell_owner k.declared.names bases r.launch k.tree k.types) (lists_of a v) r.state r.events

-- every run keeps what its kernel owes: the last kernel's with this value of this type, those
-- before it with some value of their term's type
abbrev pub AllKeep : (bases : List ℕ) → PlainTy → Value → List Stage → List StageRun → Type 0
AllKeep bases a v ks [] = Unit {0}
AllKeep bases a v [] (r ∷ rs) = ⊥
AllKeep bases a v (k ∷ []) (r ∷ rs) = StageKeeps bases k r a v
AllKeep bases a v (k ∷ next ∷ ks) (r ∷ rs) =
    ((u : Value) × HasType bases (type_in k.types) u × StageKeeps bases k r (type_in k.types) u)
    × AllKeep bases a v (next ∷ ks) rs

-- At every list of admissible launches with one valuation, on all inputs, whatever scratch and
-- other memory hold, when the kernels are run in order, each from the buffers that the one before
-- left after it stopped: every run has no fault and at most its bound's events, and writes each
-- cell of its kernel's output at most once, by its owner; and the last kernel's can stop only with
-- the source's value in the output's buffers.
abbrev pub SequenceKeeps :
    Declared → (local : Option (ℕ × ℕ)) → (source : Tree) → (output : PlainTy) → List Stage → Type 0
SequenceKeeps d local source output ks =
    (w : World) (rs : List StageRun) → IsAdmissible d w
    → BeginsWith (buffers_of d.inputs w.inputs) rs → AreRuns local w.bases ks rs
    → AllKeep w.bases output (meaning w [] source) ks rs
