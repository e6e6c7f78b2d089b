-- What a map over work-groups comes to.
use Rattle.std.specs.Prelude.{◌≡◌, ℕ, ◌<◌, ◌≤◌, true, List, filter, length, slice_index, Some}
use Rattle.kernel_tree.specs.declared.events.Event.{Event}
use Rattle.kernel_tree.specs.Code.{Local, Kernel}
use Rattle.kernel_tree.specs.Launch.{Launch, Cells, group_of}
use Rattle.kernel_tree.specs.Device.{Device, Cell, State, device_of, IsStart, row, run, IsRun, AllEnded}
use Rattle.kernel_tree.specs.Faults.{Access, accesses, Among}
use Rattle.kernel_tree.specs.Chunks.{Chunk, Phases, Chunked, chunk_writes}
use Rattle.kernel_tree.specs.Histories.{is_past, history, group_history}
use Rattle.kernel_tree.specs.Meets.{MeetTogether}
use Rattle.group_phases.specs.Cells.{output_cell}

-- Chunks from s after which all items have ended. Each output cell is its owner's at all
-- times and is written at most once; where a word is wanted it is written once, and the
-- cell holds the word at the end.
pub record LeavesOutputs (d : Device) (owner : (array index : ℕ) → ℕ) (wanted : List (List ℕ))
    (s : State) : Type 0 where
  pub phases : Phases
  pub chunks : List Chunk
  pub end : State
  pub chunked : Chunked phases d s chunks end
  pub ended : AllEnded d end
  pub owned : (e a i : ℕ) → phases.owner e (output_cell a i) ≡ Some (owner a i)
  pub at_most_once : (a i : ℕ) → chunk_writes (output_cell a i) chunks ≤ 1
  pub once : (a i : ℕ) → i < length (row wanted a) → chunk_writes (output_cell a i) chunks ≡ 1
  pub left : (a i : ℕ) → i < length (row wanted a)
      → end.memory (output_cell a i) ≡ slice_index (row wanted a) i

-- from every state in which the kernel may begin there are such chunks
abbrev pub SomeRunLeaves : Kernel → Launch → Cells → (owner : (array index : ℕ) → ℕ)
    → (wanted : List (List ℕ)) → Type 0
SomeRunLeaves k l c owner wanted =
    (s : State) → IsStart k l c s → LeavesOutputs (device_of k l c) owner wanted s

-- in an epoch in which a local array is written, each of its cells is accessed by its filler alone
abbrev pub FillersAlone : (filler : Cell → ℕ) → List Access → Type 0
FillersAlone filler all =
    (x y : Access) → Among x all → Among y all → (a : ℕ) → x.cell.array ≡ Local a
    → y.cell.array ≡ Local a → x.epoch ≡ y.epoch → x.writes ≡ true
    → (x.item ≡ filler x.cell) × (y.item ≡ filler y.cell)

-- The items of a group that wait, wait at one barrier with the same turn numbers, and none of the
-- group has ended then; each item has gone past just its group's barriers, in their order; and
-- between releases local arrays are used apart.
pub record BarriersServe (d : Device) (filler : Cell → ℕ) (s : State)
    (es : List Event) : Type 0 where
  pub meet : MeetTogether d (run d s es)
  pub same_barriers : (k : ℕ)
      → filter is_past (history d s es k) ≡ group_history d s es (group_of d.launch k)
  pub apart : FillersAlone filler (accesses d s es)

-- in every run from every state in which the kernel may begin they do
abbrev pub BarriersServeAll : Kernel → Launch → Cells → (filler : Cell → ℕ) → Type 0
BarriersServeAll k l c filler =
    (s : State) (es : List Event) → IsStart k l c s → IsRun (device_of k l c) s es
    → BarriersServe (device_of k l c) filler s es
