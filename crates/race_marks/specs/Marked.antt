-- The marks of all cells that work-items may race for, and what they tell of a run.
use Rattle.std.specs.Global.{Global}
use Rattle.std.specs.Prelude.{Vec, ◌≡◌, ◌↔◌, ℕ, ◌+◌, ◌*◌, ◌<◌, ◌∷◌, ◌++◌, Bool, false, List, [], Option, Some, None, length, map, slice_index, IsTrue}
use Rattle.kernel_tree.specs.declared.events.Event.{Event}
use Rattle.kernel_tree.specs.declared.events.Event.TheVariants.{Step}
use Rattle.kernel_tree.specs.declared.events.FaultKind.TheVariants.{Race}
use Rattle.kernel_tree.specs.Code.{Array, Input, Output, Local, Private}
use Rattle.kernel_tree.specs.Launch.{group_count}
use Rattle.kernel_tree.specs.Device.{Device, Cell, State, four_cells, home, run}
use Rattle.kernel_tree.specs.Faults.{Access, access_at, accesses, accesses_of, Among, RacesAfter}
use Rattle.kernel_tree.specs.Seen.{LaneIs}
use Rattle.race_marks.specs.declared.marks.Touch.{Touch}
use Rattle.race_marks.specs.Tells.{Epochs, TellAll, RacesAmong, AreLawful}
use Rattle.race_marks.specs.Rows.{cell_count, is_placed, place_at}
use Rattle.race_marks.specs.Tracked.{Kept}

-- of the outputs and the local arrays, where there are so many groups. Inputs, which are read
-- alone, and private arrays need no marks
pub record Marked : Type 0 where
  pub groups : ℕ
  pub outputs : Kept
  pub locals : Kept

-- the row of an array among those of its kind
abbrev pub output_row : Array → Option ℕ
output_row (Input a) = None
output_row (Output a) = Some a
output_row (Local a) = None
output_row (Private a) = None

-- the same among the local arrays
abbrev pub local_row : Array → Option ℕ
local_row (Input a) = None
local_row (Output a) = None
local_row (Local a) = Some a
local_row (Private a) = None

-- whether the cell has a mark among these, in the row, where it has one
abbrev pub is_known_at : Kept → Cell → Option ℕ → Bool
is_known_at v c None = false
is_known_at v c (Some r) = is_placed v.shape r c.home c.index

-- where among the marks the cell's is, in the row
abbrev pub place_of_row : Kept → Cell → Option ℕ → ℕ
place_of_row v c None = 0
place_of_row v c (Some r) = place_at v.shape r c.home c.index

-- whether the marks of a kind of array have one for this cell
abbrev pub is_known : (Array → Option ℕ) → Kept → Cell → Bool
is_known row v c = is_known_at v c (row c.array)

-- where among those marks the cell's is
abbrev pub place : (Array → Option ℕ) → Kept → Cell → ℕ
place row v c = place_of_row v c (row c.array)

-- they tell of each of their cells' accesses among these
pub record Tells (xs : List Access) (E : Epochs) (row : Array → Option ℕ) (v : Kept) : Type 0 where
  pub whole : length v.marks ≡ cell_count v.shape
  pub tell : TellAll xs E (is_known row v) (place row v) v.marks

-- the marks tell of each shared cell's accesses among these, where the groups are at these epochs
pub record TellOf (d : Device) (xs : List Access) (E : Epochs) (m : Marked) : Type 0 where
  pub groups : m.groups ≡ group_count d.launch
  pub one_output : m.outputs.shape.homes ≡ 1
  pub each_group : m.locals.shape.homes ≡ group_count d.launch
  pub output_lengths : (a : ℕ) → slice_index m.outputs.shape.lengths a ≡ d.lengths (Output a)
  pub local_lengths : (a : ℕ) → slice_index m.locals.shape.lengths a ≡ d.lengths (Local a)
  pub outputs : Tells xs E output_row m.outputs
  pub locals : Tells xs E local_row m.locals

-- the marks tell of the accesses of each shared cell in the run so far
abbrev pub MarksTell : Device → State → List Event → Marked → Type 0
MarksTell d s es m = TellOf d (accesses d s es) (run d s es).epochs m

-- before the first event of every run over outputs with these cells, and local arrays of these
-- lengths, in so many groups
abbrev pub BeginsMarks : List (Vec ℕ Global) → List ℕ → (groups : ℕ) → Marked → Type 0
BeginsMarks outs locals groups m = (d : Device) (s : State)
    → groups ≡ group_count d.launch
    → ((a : ℕ) → slice_index (map (λ row. length row.items) outs) a ≡ d.lengths (Output a))
    → ((a : ℕ) → slice_index locals a ≡ d.lengths (Local a))
    → MarksTell d s [] m

-- the cell of the array at this index that the touch is of, and the touch as an access of a cell
abbrev pub touched_cell : Array → (index : ℕ) → Touch → Cell
touched_cell a i t = record { array = a; home = home t.group t.item a; index = i }

-- a touch as an access of the cell, where its group is at these epochs
abbrev pub touch_of : Touch → Epochs → Cell → Access
touch_of t E c = access_at t.group t.item c t.writes (E t.group)

-- whether a touch of this cell is a race with one of these accesses, and the marks with it if not
pub record Tracks (d : Device) (xs : List Access) (E : Epochs) (b : Access) (races : Bool)
    (m : Marked) : Type 0 where
  pub exact : IsTrue races ↔ RacesAmong xs b
  pub goes_on : races ≡ false → TellOf d (xs ++ b ∷ []) E m

-- whether a touch of this cell races, and the marks after it, whatever accesses came before
abbrev pub TracksCell : (old : Marked) → Array → (index : ℕ) → Touch → (races : Bool)
    → (new : Marked) → Type 0
TracksCell old a i t races new = (d : Device) (xs : List Access) (E : Epochs)
    → TellOf d xs E old
    → AreLawful (xs ++ touch_of t E (touched_cell a i t) ∷ [])
    → i < d.lengths a
    → Tracks d xs E (touch_of t E (touched_cell a i t)) races new

-- the touches of these cells are what the item's step accesses after this run, and with it the run
-- writes no input
pub record Touches (d : Device) (s : State) (es : List Event) (t : Touch)
    (cells : List Cell) : Type 0 where
  pub are : accesses_of d (run d s es) (Step t.item) ≡ map (touch_of t (run d s es).epochs) cells
  pub reads : (a : Access) (n : ℕ) → Among a (accesses d s (es ++ Step t.item ∷ []))
      → a.cell.array ≡ Input n → a.writes ≡ false

-- whether the step is a race, and the marks after it if it is none
pub record TracksStep (d : Device) (s : State) (es : List Event) (k : ℕ) (races : Bool)
    (m : Marked) : Type 0 where
  pub exact : IsTrue races ↔ RacesAfter d s es (Step k)
  pub goes_on : races ≡ false → MarksTell d s (es ++ Step k ∷ []) m

-- the same of a step that accesses this cell alone, whatever run came before
abbrev pub TracksAccess : (old : Marked) → Array → (index : ℕ) → Touch → (races : Bool)
    → (new : Marked) → Type 0
TracksAccess old a i t races new = (d : Device) (s : State) (es : List Event)
    → MarksTell d s es old
    → Touches d s es t (touched_cell a i t ∷ [])
    → i < d.lengths a
    → TracksStep d s es t.item races new

-- the first lane of the step that races, or that none does and the marks after it
abbrev pub TracksLanes : Device → State → List Event → (k : ℕ) → Option ℕ → Marked → Type 0
TracksLanes d s es k (Some lane) m = LaneIs d s es (Step k) (Some Race) lane
TracksLanes d s es k None m = TracksStep d s es k false m

-- the first lane that races of a step on four cells in a row, whatever run came before
abbrev pub TracksFour : (old : Marked) → Array → (offset : ℕ) → Touch → (lane : Option ℕ)
    → (new : Marked) → Type 0
TracksFour old a n t lane new = (d : Device) (s : State) (es : List Event)
    → MarksTell d s es old
    → Touches d s es t (four_cells (touched_cell a (4 * n) t))
    → 4 * n + 3 < d.lengths a
    → TracksLanes d s es t.item lane new
