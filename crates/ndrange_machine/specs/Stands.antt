-- How a machine stands for a run.
use Rattle.std.specs.Prelude.{◌≡◌, ℕ, ◌+◌, ◌≤◌, ◌<◌, true, List, length, map, Some, is_some, nat_lt, slice_get, slice_index}
use Rattle.kernel_tree.specs.declared.events.Event.{Event}
use Rattle.kernel_tree.specs.Code.{Array, Kernel, Output}
use Rattle.kernel_tree.specs.Grammar.{is_kernel}
use Rattle.kernel_tree.specs.Launch.{Launch, Cells, IsWhole, item_count}
use Rattle.kernel_tree.specs.Item.{Item}
use Rattle.kernel_tree.specs.Device.{Cell, Device, State, row, device_of, length_in, start_state, cell_at, run}
use Rattle.kernel_tree.specs.Faults.{NoFailure, SomeDiverges, IsFaultless, Run}
use Rattle.kernel_tree.specs.Schedule.{AreEnabled}
use Rattle.enabled_events.specs.Listed.{AreFlags, flagged_events}
use Rattle.race_marks.specs.Marked.{MarksTell}
use Rattle.ndrange_machine.specs.declared.machine.Machine.{Machine}
use Rattle.ndrange_machine.specs.ItemView.{ItemView}
use Rattle.ndrange_machine.specs.Known.{turns_of}
use Rattle.ndrange_machine.specs.Lines.{Line, lines_at, depth, IsAt, HaveRoom, AreNumbered}
use Rattle.ndrange_machine.specs.Memory.{held, homes}
use Rattle.ndrange_machine.specs.Wants.{text_of}

-- the state in which a kernel is after these events of its run on these cells
abbrev pub state_after : Kernel → Launch → Cells → List Event → State
state_after k l c es = run (device_of k l c) (start_state k c) es

-- the machine holds a work-item, but for its private variables
pub record HoldsItem (lines : List Line) (it : ItemView) (x : Item) : Type 0 where
  pub place : IsAt lines it.line x
  pub turns : it.turns ≡ turns_of x.frames
  pub numbered : AreNumbered x.frames
  pub room : length x.frames + depth x.code ≤ it.room
  pub rooms : HaveRoom it.room x.frames

-- the machine holds a state, but for private variables: the text, the launch, each work-item, and
-- each cell of all memory
pub record Holds (k : Kernel) (l : Launch) (c : Cells) (m : Machine) (s : State) : Type 0 where
  pub text : map text_of m.lines.items ≡ lines_at 0 k.code
  pub launch : m.launch ≡ l
  pub whole : IsWhole l
  pub count : length m.items ≡ item_count l
  pub items : (j : ℕ) (it : ItemView) → slice_get m.items j ≡ Some it
      → HoldsItem (lines_at 0 k.code) it (s.items j)
  pub there : (a : Array) (h i : ℕ) → h < homes l a
      → is_some (held m.memory (record { array = a; home = h; index = i }))
      ≡ nat_lt i (length_in k c a)
  pub cells : (d : Cell) (x : ℕ) → held m.memory d ≡ Some x → s.memory d ≡ x
  pub outs : length m.memory.outs.items ≡ length c.outs

-- the machine stands for a run of the kernel, which is of the grammar, on these cells. After an
-- event that failed, which is the last of its run, it no longer has the private variables, and
-- after a fault its marks count no more
pub record StandsFor (k : Kernel) (l : Launch) (c : Cells) (m : Machine)
    (es : List Event) : Type 0 where
  pub grammar : is_kernel k ≡ true
  pub is_run : Run (device_of k l c) (start_state k c) es
  pub holds : Holds k l c m (state_after k l c es)
  pub flags : AreFlags (device_of k l c) (state_after k l c es) m.ready
  pub vars : NoFailure (device_of k l c) (start_state k c) es → (j : ℕ) (it : ItemView)
      → slice_get m.items j ≡ Some it → it.vars ≡ ((state_after k l c es).items j).vars
  pub marks : IsFaultless (device_of k l c) (start_state k c) es
      → MarksTell (device_of k l c) (start_state k c) es m.marks
  pub steady : IsFaultless (device_of k l c) (start_state k c) es
      → SomeDiverges (device_of k l c) (state_after k l c es) → ⊥

-- how many events the machine has as enabled
abbrev pub enabled_count : Machine → ℕ
enabled_count m = length (flagged_events m.ready)

-- as many events are enabled
abbrev pub CountsEnabled : Device → State → ℕ → Type 0
CountsEnabled d s n = (es : List Event) × AreEnabled d s es × (n ≡ length es)

-- these rows are what the output arrays hold
pub record AreOutputs (k : Kernel) (l : Launch) (c : Cells) (s : State)
    (rows : List (List ℕ)) : Type 0 where
  pub count : length rows ≡ length c.outs
  pub lengths : (a : ℕ) → length (row rows a) ≡ length (row c.outs a)
  pub words : (a i : ℕ) → i < length (row rows a)
      → slice_index (row rows a) i ≡ s.memory (cell_at l 0 (Output a) i)
