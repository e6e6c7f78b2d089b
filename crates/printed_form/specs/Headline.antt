-- What a kernel owes: whatever the order of its events, it has no fault, ends within its bound, and
-- leaves what it should.
use Rattle.std.specs.Prelude.{◌≡◌, ℕ, ◌<◌, ◌≤◌, true, List, length, map, count_by, slice_index}
use Rattle.kernel_tree.specs.declared.events.Event.{Event}
use Rattle.kernel_tree.specs.Code.{Output, Kernel}
use Rattle.kernel_tree.specs.Launch.{Launch, Cells}
use Rattle.kernel_tree.specs.Device.{Device, Cell, State, device_of, IsStart, row, run, IsRun, AllEnded, IsStuck}
use Rattle.kernel_tree.specs.Faults.{Access, accesses, Among, IsFaultless}
use Rattle.kernel_tree.specs.Bound.{bound}
use Rattle.kernel_tree.specs.Independent.{is_write}

-- a cell of an output, by their numbers
abbrev pub output_cell : (array index : ℕ) → Cell
output_cell a i = record { array = Output a; home = 0; index = i }

-- how often the run writes the cell
abbrev pub times_written : Device → State → List Event → Cell → ℕ
times_written d s es c = count_by (is_write c) (accesses d s es)

-- A run leaves what is wanted, a row for each output and a word for each of its cells, without a
-- fault and within its bound. No output cell is written twice, and where the run can't go on each
-- was.
pub record LeavesWanted (k : Kernel) (l : Launch) (c : Cells) (wanted : List (List ℕ)) (s : State)
    (es : List Event) : Type 0 where
  pub shape : map length wanted ≡ map length c.outs
  pub faultless : IsFaultless (device_of k l c) s es
  pub bounded : length es ≤ bound k l
  pub at_most_once : (a i : ℕ) → times_written (device_of k l c) s es (output_cell a i) ≤ 1
  pub ended : IsStuck (device_of k l c) (run (device_of k l c) s es)
      → AllEnded (device_of k l c) (run (device_of k l c) s es)
  pub once : IsStuck (device_of k l c) (run (device_of k l c) s es) → (a i : ℕ)
      → i < length (row wanted a) → times_written (device_of k l c) s es (output_cell a i) ≡ 1
  pub left : IsStuck (device_of k l c) (run (device_of k l c) s es) → (a i : ℕ)
      → i < length (row wanted a)
      → (run (device_of k l c) s es).memory (output_cell a i) ≡ slice_index (row wanted a) i

-- A run keeps what its kernel owes, where `owner` says whose each output cell is: it leaves what is
-- wanted, and each output cell is written by its owner alone.
pub record KeepsHeadline (k : Kernel) (l : Launch) (c : Cells) (owner : (array index : ℕ) → ℕ)
    (wanted : List (List ℕ)) (s : State) (es : List Event) : Type 0 where
  pub leaves : LeavesWanted k l c wanted s es
  pub by_owner : (x : Access) → Among x (accesses (device_of k l c) s es) → (a i : ℕ)
      → is_write (output_cell a i) x ≡ true → x.item ≡ owner a i

-- every run from every state in which the kernel may begin leaves what is wanted
abbrev pub EveryRunLeaves : Kernel → Launch → Cells → (wanted : List (List ℕ)) → Type 0
EveryRunLeaves k l c wanted =
    (s : State) (es : List Event) → IsStart k l c s → IsRun (device_of k l c) s es
    → LeavesWanted k l c wanted s es

-- every run from every state in which the kernel may begin keeps what it owes
abbrev pub EveryRunKeeps : Kernel → Launch → Cells → (owner : (array index : ℕ) → ℕ)
    → (wanted : List (List ℕ)) → Type 0
EveryRunKeeps k l c owner wanted =
    (s : State) (es : List Event) → IsStart k l c s → IsRun (device_of k l c) s es
    → KeepsHeadline k l c owner wanted s es
