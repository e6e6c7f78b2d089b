-- What each item and each group does in a run.
use Rattle.std.specs.Prelude.{◌≡◌, ℕ, zero, suc, ◌+◌, ◌⊎◌, Bool, true, false, List, [], ◌∷◌, ◌++◌, ◌==◌, ◌&&◌, if◌then◌else◌, map, filter, count_by, length}
use Rattle.kernel_tree.specs.declared.events.Event.{Event}
use Rattle.kernel_tree.specs.declared.events.Event.TheVariants.{Step, Release}
use Rattle.kernel_tree.specs.Launch.{Launch, group_of, first_item}
use Rattle.kernel_tree.specs.Item.{Wants, Ends, Waits, Moves, Reads, Writes, ReadsFour, WritesFour, Fails}
use Rattle.kernel_tree.specs.Device.{Device, Cell, four_cells, Fence, is_flagged, cell_at, four_at, State, wants, moves, after, run, IsRun, IsStuck}
use Rattle.kernel_tree.specs.Faults.{Access, accesses}
use Rattle.kernel_tree.specs.Deeds.{Deed, Moved, Got, Gave, GotFour, GaveFour, deed_access}

-- what an item does by an event that moves it: a deed, or it goes past a barrier with these flags
pub data Act : Type 0 where
  Did : (deed : Deed) → Act
  Past : (on_local on_global : Bool) → Act

-- what the k-th item does when an event moves it
abbrev pub act_of : Launch → ℕ → Wants → Act
act_of l k (Waits a b x) = Past a b
act_of l k (Reads a n f) = Did (Got (cell_at l k a n))
act_of l k (Writes a n v x) = Did (Gave (cell_at l k a n) v)
act_of l k (ReadsFour a n f) = Did (GotFour (four_at l k a n))
act_of l k (WritesFour a n u x) = Did (GaveFour (four_at l k a n) u)
act_of l k Ends = Did Moved
act_of l k (Moves x) = Did Moved
act_of l k (Fails f) = Did Moved

-- what the k-th item does by the event
abbrev pub acts_of : Device → State → Event → ℕ → List Act
acts_of d s e k = if moves d.launch e k then act_of d.launch k (wants d s k) ∷ [] else []

-- what the k-th item does in the run, in its order
abbrev pub history : Device → State → List Event → ℕ → List Act
history d s [] k = []
history d s (e ∷ es) k = acts_of d s e k ++ history d (after d s e) es k

-- the flags of a release of the group: its first item tells them
abbrev pub releases_of : Device → State → Event → ℕ → List Act
releases_of d s (Step k) g = []
releases_of d s (Release h) g =
    if g == h
    then act_of d.launch (first_item d.launch g) (wants d s (first_item d.launch g)) ∷ []
    else []

-- the group's releases in the run, in their order
abbrev pub group_history : Device → State → List Event → ℕ → List Act
group_history d s [] g = []
group_history d s (e ∷ es) g = releases_of d s e g ++ group_history d (after d s e) es g

-- it goes past a barrier
abbrev pub is_past : Act → Bool
is_past (Past a b) = true
is_past (Did deed) = false

-- a group's epochs after a release with these flags
abbrev pub raised : (on_local on_global : Bool) → (Fence → ℕ) → Fence → ℕ
raised a b epochs f = if is_flagged a b f then suc (epochs f) else epochs f

-- the accesses that an item of the group makes by these acts, from these epochs on
abbrev pub history_accesses : (group item : ℕ) → (Fence → ℕ) → List Act → List Access
history_accesses g k epochs [] = []
history_accesses g k epochs (Did a ∷ h) = deed_access g k epochs a ++ history_accesses g k epochs h
history_accesses g k epochs (Past a b ∷ h) = history_accesses g k (raised a b epochs) h

-- an access of a cell, of which no more is told than whether it writes
pub record Touch : Type 0 where
  pub cell : Cell
  pub writes : Bool

-- an access of the cell
abbrev pub touch : Bool → Cell → Touch
touch w c = record { cell = c; writes = w }

-- the accesses that acts make
abbrev pub touches : List Act → List Touch
touches [] = []
touches (Did Moved ∷ h) = touches h
touches (Did (Got c) ∷ h) = touch false c ∷ touches h
touches (Did (Gave c v) ∷ h) = touch true c ∷ touches h
touches (Did (GotFour c) ∷ h) = map (touch false) (four_cells c) ++ touches h
touches (Did (GaveFour c u) ∷ h) = map (touch true) (four_cells c) ++ touches h
touches (Past a b ∷ h) = touches h

-- the test holds of an access, told its cell and whether it writes
abbrev pub is_access : (Cell → Bool → Bool) → Touch → Bool
is_access p t = p t.cell t.writes

-- the test holds of some access
abbrev pub SomeAccess : (Cell → Bool → Bool) → List Touch → Type 0
SomeAccess p [] = ⊥
SomeAccess p (t ∷ ts) = (is_access p t ≡ true) ⊎ SomeAccess p ts

-- the sum over the first n items
abbrev pub sum_to : (ℕ → ℕ) → ℕ → ℕ
sum_to f zero = 0
sum_to f (suc n) = sum_to f n + f n

-- the event is a release of the group
abbrev pub is_release : (group : ℕ) → Event → Bool
is_release g (Step k) = false
is_release g (Release h) = g == h

-- the list goes on from the front
abbrev pub IsFront : {A : Type 0} → List A → List A → Type 0
IsFront {A} front whole = (rest : List A) × (whole ≡ front ++ rest)

-- what the run es tells of every run from its state: what an item or a group does there is a front
-- of what it does in es, and in a run that cannot go on it is the whole. All items of a group go
-- past the same barriers. An item's accesses are those that its acts make, and so are their counts
pub record EveryHistory (d : Device) (s : State) (es : List Event) : Type 0 where
  pub items : (fs : List Event) → IsRun d s fs → (k : ℕ)
      → IsFront (history d s fs k) (history d s es k)
  pub end_items : (fs : List Event) → IsRun d s fs → IsStuck d (run d s fs) → (k : ℕ)
      → history d s fs k ≡ history d s es k
  pub groups : (fs : List Event) → IsRun d s fs → (g : ℕ)
      → IsFront (group_history d s fs g) (group_history d s es g)
  pub end_groups : (fs : List Event) → IsRun d s fs → IsStuck d (run d s fs) → (g : ℕ)
      → group_history d s fs g ≡ group_history d s es g
  pub barriers : (fs : List Event) → IsRun d s fs → (k : ℕ)
      → filter is_past (history d s fs k) ≡ group_history d s fs (group_of d.launch k)
  pub own : (fs : List Event) → IsRun d s fs → (k : ℕ)
      → filter (λ a. a.item == k) (accesses d s fs)
      ≡ history_accesses (group_of d.launch k) k (s.epochs (group_of d.launch k)) (history d s fs k)
  pub counts : (fs : List Event) → IsRun d s fs → (k : ℕ) (p : Cell → Bool → Bool)
      → count_by (λ a. (a.item == k) && p a.cell a.writes) (accesses d s fs)
      ≡ count_by (is_access p) (touches (history d s fs k))
  pub releases : (fs : List Event) → IsRun d s fs → (g : ℕ)
      → count_by (is_release g) fs ≡ length (group_history d s fs g)
