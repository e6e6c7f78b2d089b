-- Accesses, races and the other faults of a run.
use Rattle.std.specs.Prelude.{◌≡◌, ◌≢◌, ℕ, ◌+◌, ◌*◌, ◌<◌, Bool, true, false, List, [], ◌∷◌, ◌++◌, Option, Some, None, nat_lt, if◌then◌else◌, ◌⊎◌}
use Rattle.kernel_tree.specs.declared.events.Event.{Event}
use Rattle.kernel_tree.specs.declared.events.Event.TheVariants.{Step, Release}
use Rattle.kernel_tree.specs.declared.events.FaultKind.{FaultKind}
use Rattle.kernel_tree.specs.declared.events.FaultKind.TheVariants.{Race, OutOfRange, ZeroDivisor, Divergent, LoopWrap}
use Rattle.kernel_tree.specs.Launch.{Launch, group_count, group_of}
use Rattle.kernel_tree.specs.Item.{Wants, Ends, Waits, Moves, Reads, Writes, ReadsFour, WritesFour, Fails}
use Rattle.kernel_tree.specs.Device.{Device, Cell, cell_at, behind, four_at, Fence, fence_of, State, wants, CanStep, AllTogether, after, run, IsRun}

-- an access of a cell by an item, at the cell's epoch for the item's group
pub record Access : Type 0 where
  pub item : ℕ
  pub group : ℕ
  pub cell : Cell
  pub writes : Bool
  pub epoch : ℕ

-- an access of a cell by an item of a group at these epochs
abbrev pub access_at : (group item : ℕ) → Cell → Bool → (Fence → ℕ) → Access
access_at g k c w epochs =
    record { item = k; group = g; cell = c; writes = w; epoch = epochs (fence_of c) }

-- an access of four cells is one of each
abbrev pub access_four : (group item : ℕ) → Cell → Bool → (Fence → ℕ) → List Access
access_four g k c w epochs =
    access_at g k c w epochs ∷ access_at g k (behind 1 c) w epochs
    ∷ access_at g k (behind 2 c) w epochs ∷ access_at g k (behind 3 c) w epochs ∷ []

-- the accesses that an item makes next, if any
abbrev pub accessed : Launch → ℕ → Wants → (Fence → ℕ) → List Access
accessed l k (Reads a n f) epochs = access_at (group_of l k) k (cell_at l k a n) false epochs ∷ []
accessed l k (Writes a n v x) epochs = access_at (group_of l k) k (cell_at l k a n) true epochs ∷ []
accessed l k (ReadsFour a n f) epochs = access_four (group_of l k) k (four_at l k a n) false epochs
accessed l k (WritesFour a n u x) epochs =
    access_four (group_of l k) k (four_at l k a n) true epochs
accessed l k Ends epochs = []
accessed l k (Waits a b x) epochs = []
accessed l k (Moves x) epochs = []
accessed l k (Fails f) epochs = []

-- the accesses of an event
unfoldable pub accesses_of : Device → State → Event → List Access
accesses_of d s (Step k) = accessed d.launch k (wants d s k) (s.epochs (group_of d.launch k))
accesses_of d s (Release g) = []

-- the accesses of a run, one after another
abbrev pub accesses : Device → State → List Event → List Access
accesses d s [] = []
accesses d s (e ∷ es) = accesses_of d s e ++ accesses d (after d s e) es

-- a member of a list
abbrev pub Among : {A : Type 0} → A → List A → Type 0
Among x [] = ⊥
Among x (y ∷ ys) = (x ≡ y) ⊎ Among x ys

-- two accesses of one event: of one item, both reads or both writes, and two of one cell are one
pub record OfOneEvent (a b : Access) : Type 0 where
  pub item : a.item ≡ b.item
  pub group : a.group ≡ b.group
  pub writes : a.writes ≡ b.writes
  pub same : a.cell ≡ b.cell → a ≡ b

-- two accesses of one cell by different items, one of them a write, in different groups or at one
-- epoch
pub record IsRace (a b : Access) : Type 0 where
  pub cell : a.cell ≡ b.cell
  pub items : a.item ≢ b.item
  pub write : (a.writes ≡ true) ⊎ (b.writes ≡ true)
  pub together : (a.group ≢ b.group) ⊎ (a.epoch ≡ b.epoch)

-- all items of the group have stopped, and they neither all ended nor all stand at one barrier with
-- the same turn numbers
pub record Diverges (d : Device) (s : State) (g : ℕ) : Type 0 where
  pub within : g < group_count d.launch
  pub stopped : (j : ℕ) → group_of d.launch j ≡ g → CanStep (wants d s j) → ⊥
  pub not_ended : ((j : ℕ) → group_of d.launch j ≡ g → wants d s j ≡ Ends) → ⊥
  pub not_together : AllTogether d s g → ⊥

-- why what an item wants cannot be done, if it cannot. Four cells are out of range where one of
-- them, and so the last, is
abbrev pub failure : Device → Wants → Option FaultKind
failure d (Fails f) = Some f
failure d (Reads a n x) = if nat_lt n (d.lengths a) then None else Some OutOfRange
failure d (Writes a n v x) = if nat_lt n (d.lengths a) then None else Some OutOfRange
failure d (ReadsFour a n x) = if nat_lt (4 * n + 3) (d.lengths a) then None else Some OutOfRange
failure d (WritesFour a n u x) = if nat_lt (4 * n + 3) (d.lengths a) then None else Some OutOfRange
failure d Ends = None
failure d (Waits a b x) = None
failure d (Moves x) = None

-- the fault that an event has whatever else happens in the run: a divisor of 0, an access outside
-- its array, or a loop variable that would wrap
unfoldable pub failure_of : Device → State → Event → Option FaultKind
failure_of d s (Step k) = failure d (wants d s k)
failure_of d s (Release g) = None

-- the event races with an access of the run so far
abbrev pub RacesAfter : Device → State → List Event → Event → Type 0
RacesAfter d s es e =
    (a : Access) × (b : Access) × Among a (accesses d s es) × Among b (accesses_of d (run d s es) e)
    × IsRace a b

-- some group diverges
abbrev pub SomeDiverges : Device → State → Type 0
SomeDiverges d s = (g : ℕ) × Diverges d s g

-- the fault of an event after the run so far, or none: the first that there is of a divisor of 0,
-- an access outside its array, a race, a loop variable that would wrap, a group that diverges
abbrev pub FaultIs : Device → State → List Event → Event → Option FaultKind → Type 0
FaultIs d s es e None =
    (failure_of d (run d s es) e ≡ None) × (RacesAfter d s es e → ⊥)
    × (SomeDiverges d (after d (run d s es) e) → ⊥)
FaultIs d s es e (Some Race) = (failure_of d (run d s es) e ≡ None) × RacesAfter d s es e
FaultIs d s es e (Some Divergent) =
    (failure_of d (run d s es) e ≡ None) × (RacesAfter d s es e → ⊥)
    × SomeDiverges d (after d (run d s es) e)
FaultIs d s es e (Some OutOfRange) = failure_of d (run d s es) e ≡ Some OutOfRange
FaultIs d s es e (Some ZeroDivisor) = failure_of d (run d s es) e ≡ Some ZeroDivisor
FaultIs d s es e (Some LoopWrap) = failure_of d (run d s es) e ≡ Some LoopWrap

-- no event of the run fails
abbrev pub NoFailure : Device → State → List Event → Type 0
NoFailure d s [] = Unit {0}
NoFailure d s (e ∷ es) = (failure_of d s e ≡ None) × NoFailure d (after d s e) es

-- no two accesses of the run are a race
abbrev pub NoRace : Device → State → List Event → Type 0
NoRace d s es =
    (a b : Access) → Among a (accesses d s es) → Among b (accesses d s es) → IsRace a b → ⊥

-- no group diverges after any event of the run
abbrev pub NoDivergence : Device → State → List Event → Type 0
NoDivergence d s [] = Unit {0}
NoDivergence d s (e ∷ es) = (SomeDiverges d (after d s e) → ⊥) × NoDivergence d (after d s e) es

-- no event of the run is a fault
pub record IsFaultless (d : Device) (s : State) (es : List Event) : Type 0 where
  pub no_failure : NoFailure d s es
  pub no_race : NoRace d s es
  pub no_divergence : NoDivergence d s es

-- a run as the device takes it: each event is enabled in its turn, and none comes after a fault
pub record Run (d : Device) (s : State) (es : List Event) : Type 0 where
  pub enabled : IsRun d s es
  pub none_after_fault : (front : List Event) (last : Event) → es ≡ front ++ last ∷ []
      → IsFaultless d s front
