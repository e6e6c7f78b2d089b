-- What is seen of an event.
use Rattle.std.specs.Prelude.{◌≡◌, ℕ, ◌+◌, ◌*◌, ◌<◌, List, Option, Some, None, option_map, slice_get}
use Rattle.kernel_tree.specs.declared.tree.Array as held
use Rattle.kernel_tree.specs.declared.tree.Array.TheVariants as held_array
use Rattle.kernel_tree.specs.declared.events.Event.{Event}
use Rattle.kernel_tree.specs.declared.events.Event.TheVariants.{Step, Release}
use Rattle.kernel_tree.specs.declared.events.Cell.{Cell}
use Rattle.kernel_tree.specs.declared.events.Access.{Access}
use Rattle.kernel_tree.specs.declared.events.Access.TheVariants.{Read, Write, ReadFour, WriteFour}
use Rattle.kernel_tree.specs.declared.events.FaultKind.{FaultKind}
use Rattle.kernel_tree.specs.declared.events.FaultKind.TheVariants.{Race, OutOfRange, ZeroDivisor, Divergent, LoopWrap}
use Rattle.kernel_tree.specs.declared.events.Fault.{Fault}
use Rattle.kernel_tree.specs.declared.events.Seen.{Seen}
use Rattle.kernel_tree.specs.Code.{Array, Input, Output, Local, Private}
use Rattle.kernel_tree.specs.Item.{Wants, Ends, Waits, Moves, Reads, Writes, ReadsFour, WritesFour, Fails}
use Rattle.kernel_tree.specs.Device.{Device, State, wants, run}
use Rattle.kernel_tree.specs.Faults as faults
use Rattle.kernel_tree.specs.Faults.{accesses, accesses_of, Among, IsRace, FaultIs}

-- an array that more than one work-item may reach
abbrev pub shared : Array → Option held.Array
shared (Input n) = Some (held_array.Input n)
shared (Output n) = Some (held_array.Output n)
shared (Local n) = Some (held_array.Local n)
shared (Private n) = None

-- the cell of an array that more than one work-item may reach
abbrev pub shared_cell : Array → ℕ → Option Cell
shared_cell a n = option_map (λ b. record { array = b; index = n }) (shared a)

-- the cell of shared memory that is accessed next, if any; of four cells the one of this lane
abbrev pub cell_wanted : Wants → (lane : ℕ) → Option Cell
cell_wanted (Reads a n f) lane = shared_cell a n
cell_wanted (Writes a n v x) lane = shared_cell a n
cell_wanted (ReadsFour a n f) lane = shared_cell a (4 * n + lane)
cell_wanted (WritesFour a n u x) lane = shared_cell a (4 * n + lane)
cell_wanted Ends lane = None
cell_wanted (Waits a b x) lane = None
cell_wanted (Moves x) lane = None
cell_wanted (Fails f) lane = None

-- the access of shared memory that comes next, if any; of four cells the first is named
abbrev pub access_wanted : Wants → Option Access
access_wanted (Reads a n f) = option_map Read (shared_cell a n)
access_wanted (Writes a n v x) = option_map Write (shared_cell a n)
access_wanted (ReadsFour a n f) = option_map ReadFour (shared_cell a (4 * n))
access_wanted (WritesFour a n u x) = option_map WriteFour (shared_cell a (4 * n))
access_wanted Ends = None
access_wanted (Waits a b x) = None
access_wanted (Moves x) = None
access_wanted (Fails f) = None

-- only a race carries a cell, that of this lane
abbrev pub fault_of : Wants → (lane : ℕ) → FaultKind → Fault
fault_of w lane Race = record { kind = Race; cell = cell_wanted w lane }
fault_of w lane OutOfRange = record { kind = OutOfRange; cell = None }
fault_of w lane ZeroDivisor = record { kind = ZeroDivisor; cell = None }
fault_of w lane Divergent = record { kind = Divergent; cell = None }
fault_of w lane LoopWrap = record { kind = LoopWrap; cell = None }

-- what is seen of an event with this fault; of a race of four the lane says which cell
abbrev pub seen_of : Device → State → Event → (lane : ℕ) → Option FaultKind → Seen
seen_of d s (Step k) lane kind = record {
  event = Step k;
  access = access_wanted (wants d s k);
  fault = option_map (fault_of (wants d s k) lane) kind;
}
seen_of d s (Release g) lane kind = record {
  event = Release g;
  access = None;
  fault = option_map (λ f. record { kind = f; cell = None }) kind;
}

-- the event's access of this lane races with an access of the run so far
abbrev pub RacesIn : Device → State → List Event → Event → (lane : ℕ) → Type 0
RacesIn d s es e lane =
    (a : faults.Access) × (b : faults.Access) × Among a (accesses d s es)
    × (slice_get (accesses_of d (run d s es) e) lane ≡ Some b) × IsRace a b

-- the first lane that races, where the fault is a race
abbrev pub LaneIs : Device → State → List Event → Event → Option FaultKind → (lane : ℕ) → Type 0
LaneIs d s es e (Some Race) lane =
    RacesIn d s es e lane × ((n : ℕ) → n < lane → RacesIn d s es e n → ⊥)
LaneIs d s es e (Some OutOfRange) lane = lane ≡ 0
LaneIs d s es e (Some ZeroDivisor) lane = lane ≡ 0
LaneIs d s es e (Some Divergent) lane = lane ≡ 0
LaneIs d s es e (Some LoopWrap) lane = lane ≡ 0
LaneIs d s es e None lane = lane ≡ 0

-- what is seen of an event after the run so far
pub record IsSeen (d : Device) (s : State) (es : List Event) (e : Event) (seen : Seen)
    : Type 0 where
  pub kind : Option FaultKind
  pub fault : FaultIs d s es e kind
  pub lane : ℕ
  pub in_lane : LaneIs d s es e kind lane
  pub is : seen ≡ seen_of d (run d s es) e lane kind
