-- What a machine is and tells after an event.
use Rattle.std.specs.Prelude.{◌≡◌, ℕ, Bool, true, false, not, Option, List, [], ◌∷◌, ◌++◌, length, None, Some, option_map, slice_get, ◌==◌, if◌then◌else◌}
use Rattle.kernel_tree.specs.declared.events.Event.{Event}
use Rattle.kernel_tree.specs.declared.events.Access.{Access}
use Rattle.kernel_tree.specs.declared.events.Fault.{Fault}
use Rattle.kernel_tree.specs.declared.events.FaultKind.{FaultKind}
use Rattle.kernel_tree.specs.declared.events.Seen.{Seen}
use Rattle.kernel_tree.specs.Code.{Kernel}
use Rattle.kernel_tree.specs.Launch.{Launch, Cells, group_of, ids_of}
use Rattle.kernel_tree.specs.Device.{Device, State, device_of, start_state, run, Enabled}
use Rattle.kernel_tree.specs.Faults.{FaultIs, IsFaultless}
use Rattle.kernel_tree.specs.Seen.{IsSeen, LaneIs, seen_of}
use Rattle.ndrange_machine.specs.declared.machine.Machine.{Machine}
use Rattle.ndrange_machine.specs.declared.change.Change.{Change}
use Rattle.ndrange_machine.specs.declared.change.Change.TheVariants.{Keeps}
use Rattle.ndrange_machine.specs.declared.line.Line.{Line}
use Rattle.ndrange_machine.specs.declared.line.Line.TheVariants.{Barrier}
use Rattle.ndrange_machine.specs.declared.want.Want.{Want}
use Rattle.ndrange_machine.specs.declared.want.Want.TheVariants as want
use Rattle.ndrange_machine.specs.Changes.{changed}
use Rattle.ndrange_machine.specs.ItemView.{ItemView}
use Rattle.ndrange_machine.specs.Stands.{StandsFor, state_after}
use Rattle.ndrange_machine.specs.Wants.{wanted}

-- the fault of an event after the run so far, or none
pub record HasFault (d : Device) (s : State) (es : List Event) (e : Event)
    (fault : Option Fault) : Type 0 where
  pub kind : Option FaultKind
  pub is : FaultIs d s es e kind
  pub lane : ℕ
  pub in_lane : LaneIs d s es e kind lane
  pub told : fault ≡ (seen_of d (run d s es) e lane kind).fault

-- the machine stands for the run with the event added, and this is the event's fault
pub record Advanced (k : Kernel) (l : Launch) (c : Cells) (es : List Event) (e : Event)
    (new : Machine) (fault : Option Fault) : Type 0 where
  pub stands : StandsFor k l c new (es ++ e ∷ [])
  pub tells : HasFault (device_of k l c) (start_state k c) es e fault

-- and this is what is seen of the event
pub record Took (k : Kernel) (l : Launch) (c : Cells) (es : List Event) (e : Event) (new : Machine)
    (seen : Seen) : Type 0 where
  pub stands : StandsFor k l c new (es ++ e ∷ [])
  pub tells : IsSeen (device_of k l c) (start_state k c) es e seen

-- of every run for which a machine stands, where it has no fault and the event is enabled
abbrev pub OfRuns : Machine → Event → (Kernel → Launch → Cells → List Event → Type 0) → Type 0
OfRuns m e P = (k : Kernel) (l : Launch) (c : Cells) (es : List Event)
    → StandsFor k l c m es
    → IsFaultless (device_of k l c) (start_state k c) es
    → Enabled (device_of k l c) (state_after k l c es) e
    → P k l c es

-- the machine after the event, and the event's fault, for every run that the old one stands for
abbrev pub Advances : (old : Machine) → Event → (new : Machine) → Option Fault → Type 0
Advances old e new fault = OfRuns old e (λ k l c es. Advanced k l c es e new fault)

-- the machine after the event, and what is seen of it, for every run that the old one stands for
abbrev pub Takes : (old : Machine) → Event → (new : Machine) → Seen → Type 0
Takes old e new seen = OfRuns old e (λ k l c es. Took k l c es e new seen)

-- this is the access that is seen of the event, for every run that the machine stands for
abbrev pub TellsAccess : Machine → Event → Option Access → Type 0
TellsAccess m e access =
    OfRuns m e
    (λ k l c es. access ≡ (seen_of (device_of k l c) (state_after k l c es) e 0 None).access)

-- this is what the j-th work-item wants
abbrev pub IsWanted : Machine → (j : ℕ) → Want → Type 0
IsWanted m j w =
    (it : ItemView) → slice_get m.items j ≡ Some it
    → w ≡ wanted m.lines.items (ids_of m.launch j) it

-- whether a line is a barrier
abbrev pub is_barrier : Option Line → Bool
is_barrier (Some (Barrier on_local on_global)) = true
is_barrier _ = false

-- whether there is a line, and it is no barrier
abbrev pub is_going : Option Line → Bool
is_going None = false
is_going (Some l) = not (is_barrier (Some l))

-- whether the j-th work-item has neither ended nor stands at a barrier
abbrev pub IsGoing : Machine → (j : ℕ) → Bool → Type 0
IsGoing m j b =
    (it : ItemView) → slice_get m.items j ≡ Some it → b ≡ is_going (slice_get m.lines.items it.line)

-- the j-th work-item stands at this line
abbrev pub StandsAt : Machine → (j line : ℕ) → Type 0
StandsAt m j line = (it : ItemView) → slice_get m.items j ≡ Some it → it.line ≡ line

-- whether the j-th work-item stands at a barrier
abbrev pub IsAtBarrier : Machine → (j : ℕ) → Bool → Type 0
IsAtBarrier m j b =
    (it : ItemView) → slice_get m.items j ≡ Some it
    → b ≡ is_barrier (slice_get m.lines.items it.line)

-- the same machine but for flags and marks
pub record SameCore (m n : Machine) : Type 0 where
  pub lines : n.lines ≡ m.lines
  pub launch : n.launch ≡ m.launch
  pub memory : n.memory ≡ m.memory
  pub items : n.items ≡ m.items

-- the fault of the event after which the machine is this one, where that has one
abbrev pub told_if : (fails : Bool) → Machine → Option Fault
told_if fails m = if fails then m.fault else None

-- the same machine, which tells this fault of its last event
pub record Tells (m n : Machine) (fails : Bool) (fault : Option Fault) : Type 0 where
  pub core : SameCore m n
  pub ready : n.ready ≡ m.ready
  pub marks : n.marks ≡ m.marks
  pub told : told_if fails n ≡ fault

-- the machine with one work-item changed, but for memory, flags and marks
pub record Changes (m n : Machine) (j : ℕ) (c : Change) (line : ℕ) : Type 0 where
  pub lines : n.lines.items ≡ m.lines.items
  pub launch : n.launch ≡ m.launch
  pub count : length n.items ≡ length m.items
  pub items : (i : ℕ)
      → slice_get n.items i
      ≡
      (if i == j then option_map (λ it. changed it c line)
      (slice_get m.items i) else slice_get m.items i)

-- a work-item past the barrier at which it stands, if it does
abbrev pub past_want : ItemView → Want → ItemView
past_want it (want.Waits on_local on_global next) = changed it Keeps next
past_want it want.Ends = it
past_want it (want.Fails kind) = it
past_want it (want.Changes c next) = it
past_want it (want.Reads v a i next) = it
past_want it (want.Writes a i x next) = it
past_want it (want.ReadsFour v a n next) = it
past_want it (want.WritesFour a n u next) = it

-- item j past the barrier at which the machine has it
abbrev pub past : Machine → (j : ℕ) → ItemView → ItemView
past m j it = past_want it (wanted m.lines.items (ids_of m.launch j) it)

-- the machine with these work-items past their barriers
pub record Passes (m n : Machine) (moved : ℕ → Bool) : Type 0 where
  pub lines : n.lines.items ≡ m.lines.items
  pub launch : n.launch ≡ m.launch
  pub count : length n.items ≡ length m.items
  pub memory : n.memory ≡ m.memory
  pub marks : n.marks ≡ m.marks
  pub ready : n.ready ≡ m.ready
  pub items : (i : ℕ)
      → slice_get n.items i
      ≡ (if moved i then option_map (past m i) (slice_get m.items i) else slice_get m.items i)

-- item j alone is past its barrier
abbrev pub PassesOne : (m n : Machine) → (j : ℕ) → Type 0
PassesOne m n j = Passes m n (λ i. i == j)

-- each item of the group is past its barrier
abbrev pub PassesGroup : (m n : Machine) → (group : ℕ) → Type 0
PassesGroup m n g = Passes m n (λ i. group_of m.launch i == g)
