-- What a group's items do in the phases of a map over work-groups.
use Rattle.std.specs.Prelude.{Bool, ◌≡◌, ℕ, ◌<◌, true, List, Option, Some, None, ◌⊎◌, ◌&&◌, if◌then◌else◌, Contains}
use Rattle.kernel_tree.specs.Formula.{Vars}
use Rattle.kernel_tree.specs.Code.{Array, Input, Output, Local, Private}
use Rattle.kernel_tree.specs.Launch.{Launch, Cells, group_of}
use Rattle.kernel_tree.specs.Device.{Cell}
use Rattle.kernel_tree.specs.Independent.{Owners}
use Rattle.barrier_placement.specs.declared.touches.Touch.{Touch}
use Rattle.group_phases.specs.Cells.{local_cell, IsGivenInput}

-- In phase q of turn t the k-th item writes just the cells `targets t q k`; in turn t of group g a
-- cell is to hold `value g t`. The local array a is filled in phase `filled_in a`, each cell by
-- one item, its filler. Before the phase `knows t q k` holds of the item's variables. `touches`
-- are the phases' uses of arrays.
pub record Work : Type 1 where
  pub touches : List Touch
  pub filled_in : (array : ℕ) → ℕ
  pub filler : Cell → ℕ
  pub targets : (turn phase item : ℕ) → Cell → Type 0
  pub value : (group turn : ℕ) → Cell → ℕ
  pub knows : (turn phase item : ℕ) → (vars : Vars) → Type 0

-- a cell of a local array that is filled in phase q, of which the k-th item is the filler
pub record IsOwnLocal (l : Launch) (w : Work) (q k : ℕ) (b : Cell) : Type 0 where
  pub array : ℕ
  pub index : ℕ
  pub is : b ≡ local_cell (group_of l k) array index
  pub in_phase : w.filled_in array ≡ q
  pub owned : w.filler b ≡ k

-- a local cell that the k-th item reads in phase q of turn t: an item of its group has filled it in
-- an earlier phase, both phases' uses of the array are told, and where both are aligned the k-th
-- item itself is the filler
pub record IsFilledEarlier (l : Launch) (w : Work) (t q k : ℕ) (b : Cell) : Type 0 where
  pub array : ℕ
  pub index : ℕ
  pub is : b ≡ local_cell (group_of l k) array index
  pub earlier : w.filled_in array < q
  pub by : ℕ
  pub by_group : group_of l by ≡ group_of l k
  pub filled : w.targets t (w.filled_in array) by b
  pub writer : Touch
  pub reader : Touch
  pub writer_told : Contains w.touches writer
  pub reader_told : Contains w.touches reader
  pub writer_phase : writer.phase ≡ w.filled_in array
  pub reader_phase : reader.phase ≡ q
  pub one_buffer : writer.buffer ≡ reader.buffer
  pub writer_local : writer.local ≡ true
  pub reader_local : reader.local ≡ true
  pub writes : writer.writes ≡ true
  pub aligned : (writer.aligned && reader.aligned) ≡ true → w.filler b ≡ k

-- what the k-th item may read in phase q of turn t
abbrev pub IsKnown : Launch → Cells → Work → (t q k : ℕ) → Cell → Type 0
IsKnown l c w t q k b = IsGivenInput c (w.value (group_of l k) t) b ⊎ IsFilledEarlier l w t q k b

-- in each epoch an input's cell is nobody's, an output's cell its owner's, a private array its
-- item's, and a local cell its filler's where the phase that fills it runs in this epoch
abbrev pub owners_in : Work → (owner : (array index : ℕ) → ℕ) → (runs_in : (epoch phase : ℕ) → Bool)
    → ℕ → Owners
owners_in w owner runs_in e c = by c.array
  where
    by : Array → Option ℕ
    by (Input a) = None
    by (Output a) = Some (owner a c.index)
    by (Local a) = if runs_in e (w.filled_in a) then Some (w.filler c) else None
    by (Private a) = Some c.home
