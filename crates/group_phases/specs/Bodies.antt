-- What one item's code does, whatever memory holds outside the cells that it counts on. It names no
-- epoch, no group and no barrier.
use Rattle.std.specs.Prelude.{Some, None, ◌≡◌, ℕ, ◌<◌, true, false, Bool, List, length, slice_index}
use Rattle.kernel_tree.specs.Formula.{Vars}
use Rattle.kernel_tree.specs.Code.{Array, Private, Code}
use Rattle.kernel_tree.specs.Launch.{Cells}
use Rattle.kernel_tree.specs.Item.{Item, item, Frame}
use Rattle.kernel_tree.specs.Device.{Device, Cell, Memory, row}
use Rattle.kernel_tree.specs.Deeds.{Deed, Goes, Every, written}
use Rattle.kernel_tree.specs.Independent.{Owners, MayRead, IsAllowed, write_count}
use Rattle.group_phases.specs.Cells.{input_cell}

-- an array that each item has of its own
abbrev pub is_private : Array → Bool
is_private (Private n) = true
is_private _ = false

-- a cell that other items may reach
abbrev pub IsShared : Cell → Type 0
IsShared c = is_private c.array ≡ false

-- a cell of the k-th item's private arrays
abbrev pub IsOwnPrivate : ℕ → Cell → Type 0
IsOwnPrivate k c = (is_private c.array ≡ true) × (c.home ≡ k)

-- what the k-th item may count on: known cells hold their values and may be read, its targets and
-- its private arrays are its own
pub record IsReady (k : ℕ) (o : Owners) (m : Memory) (known target : Cell → Type 0)
    (value : Cell → ℕ) : Type 0 where
  pub holds : (c : Cell) → known c → m c ≡ value c
  pub may : (c : Cell) → known c → MayRead o k c
  pub mine : (c : Cell) → target c → o c ≡ Some k
  pub own : (c : Cell) → IsOwnPrivate k c → o c ≡ Some k

-- what it then does, from these variables on up to the rest: each target is written once and comes
-- to hold its value, and of other cells only private ones are written
pub record Part (d : Device) (k : ℕ) (o : Owners) (m : Memory) (target : Cell → Type 0)
    (value : Cell → ℕ) (fs : List Frame) (code : Code) (vars : Vars) (rest : Code)
    (Then : Vars → Type 0) : Type 0 where
  pub after : Vars
  pub deeds : List Deed
  pub goes : Goes d k (item code fs vars) m deeds (item rest fs after)
  pub so : Then after
  pub allowed : Every (IsAllowed o k) deeds
  pub once : (c : Cell) → target c → write_count c deeds ≡ 1
  pub holds : (c : Cell) → target c → written deeds m c ≡ value c
  pub quiet : (c : Cell) → IsShared c → (target c → ⊥) → write_count c deeds ≡ 0

-- whoever owns the cells and whatever memory holds, a ready item does its part
abbrev pub CanDo : Device → ℕ → (known target : Cell → Type 0) → (value : Cell → ℕ) → List Frame
    → Code → Vars → Code → (Vars → Type 0) → Type 0
CanDo d k known target value fs code vars rest Then =
    (o : Owners) (m : Memory) → IsReady k o m known target value
    → Part d k o m target value fs code vars rest Then

-- what the k-th item may count on between turns: inputs hold their words and may be read, and its
-- private arrays are its own
pub record HasInputs (k : ℕ) (o : Owners) (m : Memory) (c : Cells) : Type 0 where
  pub inputs : (array index : ℕ) → index < length (row c.ins array)
      → m (input_cell array index) ≡ slice_index (row c.ins array) index
  pub free : (array index : ℕ) → o (input_cell array index) ≡ None
  pub own : (b : Cell) → IsOwnPrivate k b → o b ≡ Some k

-- it goes on to where this holds, and writes no cell that others may reach
pub record Hop (d : Device) (k : ℕ) (o : Owners) (m : Memory) (x : Item)
    (Then : Item → Type 0) : Type 0 where
  pub after : Item
  pub deeds : List Deed
  pub goes : Goes d k x m deeds after
  pub so : Then after
  pub allowed : Every (IsAllowed o k) deeds
  pub quiet : (c : Cell) → IsShared c → write_count c deeds ≡ 0

-- whoever owns the other cells and whatever they hold
abbrev pub CanHop : Device → ℕ → Cells → Item → (Item → Type 0) → Type 0
CanHop d k c x Then = (o : Owners) (m : Memory) → HasInputs k o m c → Hop d k o m x Then
