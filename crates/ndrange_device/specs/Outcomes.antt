-- What is left when a run along a schedule is over, and what is seen of it.
use Rattle.std.specs.Prelude.{◌≡◌, ◌⊎◌, ℕ, ◌-◌, ◌^◌, suc, min, Bool, true, false, List, [], ◌∷◌, ◌++◌, Option, Some, None, Result, Ok, Err, Vec, length, count_by}
use Rattle.std.proofs.Common.{inl, inr}
use Rattle.std.specs.Borrow.{MutBor}
use Rattle.std.specs.Global.{Global}
use Rattle.kernel_tree.specs.declared.events.Cell.{Cell}
use Rattle.kernel_tree.specs.declared.events.Event.{Event}
use Rattle.kernel_tree.specs.declared.events.Event.TheVariants.{Step, Release}
use Rattle.kernel_tree.specs.declared.events.FaultKind.{FaultKind}
use Rattle.kernel_tree.specs.declared.events.Seen.{Seen}
use Rattle.kernel_tree.specs.Code.{Kernel}
use Rattle.kernel_tree.specs.Launch.{Launch, Cells}
use Rattle.kernel_tree.specs.Device.{Device, State, device_of, start_state, wants, after, IsStuck}
use Rattle.kernel_tree.specs.Faults.{FaultIs, IsFaultless, Run}
use Rattle.kernel_tree.specs.Schedule.{Schedule, Follows, ScheduledRun}
use Rattle.kernel_tree.specs.Seen.{LaneIs, fault_of, seen_of}
use Rattle.ndrange_machine.specs.Stands.{AreOutputs, state_after}
use Rattle.ndrange_device.specs.declared.outcome.DeviceNo.{DeviceNo}
use Rattle.ndrange_device.specs.declared.outcome.Outcome.{Outcome}
use Rattle.ndrange_device.specs.declared.outcome.DeviceNo.TheVariants.{Fault, Memory}

-- what a run begins with
pub record Begun : Type 0 where
  pub kernel : Kernel
  pub launch : Launch
  pub cells : Cells

-- a count as 64 bits hold it: at its greatest value it stays
abbrev pub capped : ℕ → ℕ
capped n = min n (2 ^ 64 - 1)

-- whether an event is a release, and no work-item's step
abbrev pub is_release : Event → Bool
is_release (Step k) = false
is_release (Release g) = true

-- the run under the schedule has no fault, and ends with these outputs after so many events, so
-- many of them releases
pub record EndsUnder (schedule : Schedule) (k : Kernel) (l : Launch) (c : Cells)
    (outputs : List (List ℕ)) (events releases : ℕ) : Type 0 where
  pub run : List Event
  pub scheduled : ScheduledRun schedule (device_of k l c) (start_state k c) run
  pub faultless : IsFaultless (device_of k l c) (start_state k c) run
  pub over : IsStuck (device_of k l c) (state_after k l c run)
  pub counted : events ≡ capped (length run)
  pub released : releases ≡ capped (count_by is_release run)
  pub left : AreOutputs k l c (state_after k l c run) outputs

-- under the schedule this work-item's step comes after these events, and is a fault of this kind; a
-- race is one of this lane first
pub record FaultsAfter (schedule : Schedule) (k : Kernel) (l : Launch) (c : Cells)
    (front : List Event) (item : ℕ) (kind : FaultKind) (lane : ℕ) : Type 0 where
  pub scheduled : ScheduledRun schedule (device_of k l c) (start_state k c)
      (front ++ Step item ∷ [])
  pub fault : FaultIs (device_of k l c) (start_state k c) front (Step item) (Some kind)
  pub in_lane : LaneIs (device_of k l c) (start_state k c) front (Step item) (Some kind) lane

-- the run under the schedule ends in a fault of this kind at the event of this number, which is
-- this work-item's, with the cell of a race
pub record FaultsUnder (schedule : Schedule) (k : Kernel) (l : Launch) (c : Cells)
    (kind : FaultKind) (event item : ℕ) (cell : Option Cell) : Type 0 where
  pub front : List Event
  pub lane : ℕ
  pub faults : FaultsAfter schedule k l c front item kind lane
  pub number : event ≡ capped (suc (length front))
  pub seen : cell
      ≡ (fault_of (wants (device_of k l c) (state_after k l c front) item) lane kind).cell

-- why the run has no outcome; want of memory needs no cause
abbrev pub Refuses : Schedule → Kernel → Launch → Cells → DeviceNo → Type 0
Refuses schedule k l c (Fault kind event item cell) =
    FaultsUnder schedule k l c kind event item cell
Refuses schedule k l c Memory = Unit {0}

-- ---- what is seen

-- of the events of a run without a fault, in turn
abbrev pub sights : Device → State → List Event → List Seen
sights d s [] = []
sights d s (e ∷ es) = seen_of d s e 0 None ∷ sights d (after d s e) es

-- of the first events of the run under the schedule, which are no fault
pub record SeesFront (schedule : Schedule) (k : Kernel) (l : Launch) (c : Cells)
    (seen : List Seen) : Type 0 where
  pub front : List Event
  pub is_run : Run (device_of k l c) (start_state k c) front
  pub faultless : IsFaultless (device_of k l c) (start_state k c) front
  pub follows : Follows schedule 0 (device_of k l c) (start_state k c) front
  pub sights : seen ≡ sights (device_of k l c) (start_state k c) front

-- of the run under the schedule, which has no fault
pub record SeesRun (schedule : Schedule) (k : Kernel) (l : Launch) (c : Cells)
    (seen : List Seen) : Type 0 where
  pub run : List Event
  pub scheduled : ScheduledRun schedule (device_of k l c) (start_state k c) run
  pub sights : seen ≡ sights (device_of k l c) (start_state k c) run

-- of the run under the schedule, which ends in a fault of this kind, the fault last
pub record SeesFault (schedule : Schedule) (k : Kernel) (l : Launch) (c : Cells) (kind : FaultKind)
    (item : ℕ) (seen : List Seen) : Type 0 where
  pub front : List Event
  pub lane : ℕ
  pub faults : FaultsAfter schedule k l c front item kind lane
  pub sights : seen ≡ sights (device_of k l c) (start_state k c) front
      ++ seen_of (device_of k l c) (state_after k l c front) (Step item) lane (Some kind) ∷ []

-- what a trace gets of a run that ends so: all that is seen, or for want of memory what is seen
-- first
abbrev pub Sees : Schedule → Kernel → Launch → Cells → Result Outcome DeviceNo → List Seen → Type 0
Sees schedule k l c (Ok outcome) seen = SeesRun schedule k l c seen
Sees schedule k l c (Err (Fault kind event item cell)) seen =
    SeesFault schedule k l c kind item seen
Sees schedule k l c (Err Memory) seen = SeesFront schedule k l c seen

-- behind a list stands more, which is so
abbrev pub Gets : (List Seen → Type 0) → (old new : List Seen) → Type 0
Gets P old new = (seen : List Seen) × (new ≡ old ++ seen) × P seen

-- the same of the list behind a reference, where there is one, as it comes in and as it is left
abbrev pub GetsIfThere : (List Seen → Type 0) → Option (MutBor (Vec Seen Global))
    → Unit {0} ⊎ ((MutBor (Vec Seen Global) × Unit {0}) ⊎ ⊥) → Type 0
GetsIfThere P (Some trace) (inr (inl left)) = Gets P trace.now.items left.0.now.items
GetsIfThere P (Some trace) _ = ⊥
GetsIfThere P None _ = Unit {0}
