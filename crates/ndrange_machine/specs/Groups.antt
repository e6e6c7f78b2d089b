-- What the machine tells and keeps of its work-groups.
use Rattle.std.specs.Prelude.{◌≡◌, ◌≢◌, ◌↔◌, ℕ, ◌<◌, Bool, true, false, List, ◌∷◌, ◌++◌, [], replicate, slice_get, slice_index_or, slice_set, IsTrue}
use Rattle.kernel_tree.specs.declared.events.Event.{Event}
use Rattle.kernel_tree.specs.declared.events.Event.TheVariants.{Step, Release}
use Rattle.kernel_tree.specs.Code.{Kernel}
use Rattle.kernel_tree.specs.Item.{Ends}
use Rattle.kernel_tree.specs.Launch.{Launch, Cells, item_count, group_count, group_of, first_item}
use Rattle.kernel_tree.specs.Device.{Device, Fence, State, device_of, wants, CanStep, AllTogether, has_flag, is_flagged, after, run}
use Rattle.kernel_tree.specs.Faults.{SomeDiverges}
use Rattle.enabled_events.specs.Grids.{grid_of}
use Rattle.enabled_events.specs.Listed.{Flags, AreFlags}
use Rattle.race_marks.specs.Marked.{MarksTell}
use Rattle.ndrange_machine.specs.declared.machine.Machine.{Machine}
use Rattle.ndrange_machine.specs.declared.want.Want.{Want}
use Rattle.ndrange_machine.specs.declared.want.Want.TheVariants.{Waits}
use Rattle.ndrange_machine.specs.ItemView.{ItemView}
use Rattle.ndrange_machine.specs.Known.{numbers}
use Rattle.ndrange_machine.specs.Stands.{Holds}
use Rattle.ndrange_machine.specs.declared.change.Change.TheVariants.{Keeps}
use Rattle.ndrange_machine.specs.Takes.{Changes, IsGoing, SameCore, StandsAt, is_going}

-- at one line, in turns of the same numbers
abbrev pub SamePlace : ItemView → ItemView → Type 0
SamePlace a b = (a.line ≡ b.line) × (numbers a.turns ≡ numbers b.turns)

-- every work-item of the group has ended
abbrev pub AllOver : Device → State → (group : ℕ) → Type 0
AllOver d s g = (j : ℕ) → group_of d.launch j ≡ g → wants d s j ≡ Ends

-- of every state that the machine holds
abbrev pub TellsTogether : Machine → (group : ℕ) → Bool → Type 0
TellsTogether m g b =
    (k : Kernel) (l : Launch) (c : Cells) (s : State) → Holds k l c m s
    → IsTrue b ↔ AllTogether (device_of k l c) s g

-- whether the group has ended, in every state that the machine holds
abbrev pub TellsEnded : Machine → (group : ℕ) → Bool → Type 0
TellsEnded m g b =
    (k : Kernel) (l : Launch) (c : Cells) (s : State) → Holds k l c m s
    → IsTrue b ↔ AllOver (device_of k l c) s g

-- one item's flag says whether it is going
pub record SetsFlag (m n : Machine) (j : ℕ) : Type 0 where
  pub grid : n.ready.grid ≡ m.ready.grid
  pub groups : n.ready.groups ≡ m.ready.groups
  pub others : (i : ℕ) → i ≢ j
      → slice_index_or n.ready.items i false ≡ slice_index_or m.ready.items i false
  pub own : j < item_count m.launch → IsGoing m j (slice_index_or n.ready.items j false)

-- the flags of one group and its items are those of the state, and no other has changed
pub record Refreshed (d : Device) (s : State) (g : ℕ) (v w : Flags) : Type 0 where
  pub kept : (k : ℕ) → (group_of d.launch k ≡ g → ⊥)
      → slice_index_or w.items k false ≡ slice_index_or v.items k false
  pub moved : (k : ℕ) → k < item_count d.launch → group_of d.launch k ≡ g
      → (slice_index_or w.items k false ≡ true) ↔ CanStep (wants d s k)
  pub others : (h : ℕ) → h ≢ g → slice_index_or w.groups h false ≡ slice_index_or v.groups h false
  pub group : (slice_index_or w.groups g false ≡ true) ↔ AllTogether d s g

-- the flags stay, but for those of this group, which are then those of any state held
abbrev pub Refreshes : (m n : Machine) → (group : ℕ) → Type 0
Refreshes m n g =
    (k : Kernel) (l : Launch) (c : Cells) (s : State) → Holds k l c m s
    → Refreshed (device_of k l c) s g m.ready n.ready

-- each item stands at the first line, and the flags have it whether they can step from there
pub record AtStart (m : Machine) (steps : Bool) : Type 0 where
  pub stands : (j : ℕ) → StandsAt m j 0
  pub going : steps ≡ is_going (slice_get m.lines.items 0)
  pub ready : m.ready
      ≡ record {
        grid = grid_of m.launch;
        items = replicate
            (item_count m.launch) steps;
        groups = replicate (group_count m.launch) false;
      }

-- the second machine's flags are those of every state that the first one holds
abbrev pub Begins : (m n : Machine) → Type 0
Begins m n =
    (k : Kernel) (l : Launch) (c : Cells) (s : State) → Holds k l c m s
    → AreFlags (device_of k l c) s n.ready

-- a group whose items have all stopped: its flag is set, and whether it diverges is told
pub record Met (d : Device) (s : State) (g : ℕ) (v w : Flags) (diverges : Bool) : Type 0 where
  pub together : Bool
  pub is : IsTrue together ↔ AllTogether d s g
  pub flags : w ≡ record { grid = v.grid; items = v.items; groups = slice_set v.groups g together }
  pub apart : IsTrue diverges ↔ ((AllTogether d s g → ⊥) × (AllOver d s g → ⊥))

-- a group that has stopped: its flag is set, and whether it diverges is told, of every state held
abbrev pub Meets : (m n : Machine) → (group : ℕ) → Bool → Type 0
Meets m n g b =
    (k : Kernel) (l : Launch) (c : Cells) (s : State) → Holds k l c m s
    → Met (device_of k l c) s g m.ready n.ready b

-- after an item's step the flags are those of the state there, and whether a group diverges is told
pub record Settled (d : Device) (s : State) (w : Flags) (diverges : Bool) : Type 0 where
  pub flags : AreFlags d s w
  pub apart : IsTrue diverges ↔ SomeDiverges d s

-- of every step from a state in which no group diverges
pub record Stepped (d : Device) (s : State) (j : ℕ) (v : Flags) : Type 0 where
  pub there : j < item_count d.launch
  pub flags : AreFlags d s v
  pub steps : CanStep (wants d s j)
  pub steady : SomeDiverges d s → ⊥

-- the flags after item j's step, and whether a group diverges, of every step to a state held
abbrev pub Settles : (m n : Machine) → (j : ℕ) → Bool → Type 0
Settles m n j b = (k : Kernel) (l : Launch) (c : Cells) (s : State)
    → Holds k l c m (after (device_of k l c) s (Step j))
    → Stepped (device_of k l c) s j m.ready
    → Settled (device_of k l c) (after (device_of k l c) s (Step j)) n.ready b

-- an item goes to the line, and the flags are those of the state there
pub record Stops (m n : Machine) (j line : ℕ) : Type 0 where
  pub between : Machine
  pub diverges : Bool
  pub changes : Changes m between j Keeps line
  pub memory : between.memory ≡ m.memory
  pub ready : between.ready ≡ m.ready
  pub core : SameCore between n
  pub settles : Settles between n j diverges

-- the marks tell of a run after the release of a group that stands at this barrier
abbrev pub MarksRelease : (m n : Machine) → (group : ℕ) → Want → Type 0
MarksRelease m n g w = (on_local on_global : Bool) (to : ℕ) → w ≡ Waits on_local on_global to
    → (d : Device) (s : State) (es : List Event) → MarksTell d s es m.marks
    →
    ((f : Fence)
    → has_flag (wants d (run d s es) (first_item d.launch g)) f
    ≡ is_flagged on_local on_global f)
    → MarksTell d s (es ++ Release g ∷ []) n.marks
