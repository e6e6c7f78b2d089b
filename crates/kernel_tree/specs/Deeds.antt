-- What one item does where it goes on alone.
use Rattle.std.specs.Prelude.{◌≡◌, ℕ, ◌+◌, ◌*◌, ◌<◌, zero, suc, true, false, List, [], ◌∷◌, ◌++◌, ◌⊎◌, ◌==◌, if◌then◌else◌}
use Rattle.kernel_tree.specs.declared.events.Event.{Event}
use Rattle.kernel_tree.specs.declared.events.Event.TheVariants.{Step}
use Rattle.kernel_tree.specs.Formula.{Four}
use Rattle.kernel_tree.specs.Launch.{group_of, ids_of}
use Rattle.kernel_tree.specs.Item.{Item, Wants, Ends, Waits, Moves, Reads, Writes, ReadsFour, WritesFour, Fails, next}
use Rattle.kernel_tree.specs.Device.{Device, Cell, cell_at, behind, four_cells, four_at, Memory, write, four_words, write_four, Fence, State, run, IsRun}
use Rattle.kernel_tree.specs.Faults.{Access, access_at, access_four, accesses, Among, NoFailure}

-- what one event of an item does to memory; of four cells the first is named
pub data Deed : Type 0 where
  Moved : Deed
  Got : (cell : Cell) → Deed
  Gave : (cell : Cell) → (value : ℕ) → Deed
  GotFour : (cell : Cell) → Deed
  GaveFour : (cell : Cell) → (value : Four) → Deed

-- the memory after a deed
abbrev pub deed_memory : Deed → Memory → Memory
deed_memory Moved m = m
deed_memory (Got c) m = m
deed_memory (Gave c v) m = write c v m
deed_memory (GotFour c) m = m
deed_memory (GaveFour c u) m = write_four c u m

-- the memory after these deeds
abbrev pub written : List Deed → Memory → Memory
written [] m = m
written (a ∷ ds) m = written ds (deed_memory a m)

-- the k-th item, which wants this, becomes y by this deed, where the memory is m
abbrev pub Does : Device → ℕ → Wants → Memory → Deed → Item → Type 0
Does d k Ends m a y = ⊥
Does d k (Waits p q x) m a y = ⊥
Does d k (Moves x) m Moved y = x ≡ y
Does d k (Moves x) m _ y = ⊥
Does d k (Reads a n f) m (Got c) y =
    (cell_at d.launch k a n ≡ c) × (n < d.lengths a) × (f (m c) ≡ y)
Does d k (Reads a n f) m _ y = ⊥
Does d k (Writes a n v x) m (Gave c w) y =
    (cell_at d.launch k a n ≡ c) × (n < d.lengths a) × (v ≡ w) × (x ≡ y)
Does d k (Writes a n v x) m _ y = ⊥
Does d k (ReadsFour a n f) m (GotFour c) y =
    (four_at d.launch k a n ≡ c) × (4 * n + 3 < d.lengths a) × (f (four_words m c) ≡ y)
Does d k (ReadsFour a n f) m _ y = ⊥
Does d k (WritesFour a n u x) m (GaveFour c v) y =
    (four_at d.launch k a n ≡ c) × (4 * n + 3 < d.lengths a) × (u ≡ v) × (x ≡ y)
Does d k (WritesFour a n u x) m _ y = ⊥
Does d k (Fails f) m a y = ⊥

-- the k-th item goes from x to y by these deeds, where the memory is m at first
abbrev pub Goes : Device → ℕ → Item → Memory → List Deed → Item → Type 0
Goes d k x m [] y = x ≡ y
Goes d k x m (a ∷ ds) y =
    (z : Item) × Does d k (next (ids_of d.launch k) x) m a z × Goes d k z (deed_memory a m) ds y

-- the accesses of a deed by an item of a group at these epochs
abbrev pub deed_access : (group item : ℕ) → (Fence → ℕ) → Deed → List Access
deed_access g k epochs Moved = []
deed_access g k epochs (Got c) = access_at g k c false epochs ∷ []
deed_access g k epochs (Gave c w) = access_at g k c true epochs ∷ []
deed_access g k epochs (GotFour c) = access_four g k c false epochs
deed_access g k epochs (GaveFour c u) = access_four g k c true epochs

-- the accesses of deeds, one after another
abbrev pub deed_accesses : (group item : ℕ) → (Fence → ℕ) → List Deed → List Access
deed_accesses g k epochs [] = []
deed_accesses g k epochs (a ∷ ds) = deed_access g k epochs a ++ deed_accesses g k epochs ds

-- the k-th item's events, one for each deed
abbrev pub steps_of : ℕ → List Deed → List Event
steps_of k [] = []
steps_of k (a ∷ ds) = Step k ∷ steps_of k ds

-- n turns of a loop, each ended by its test
abbrev pub all_turns : (ℕ → List Deed) → ℕ → List Deed
all_turns ds zero = []
all_turns ds (suc n) = all_turns ds n ++ (ds n ++ Moved ∷ [])

-- each member is so
abbrev pub Every : {A : Type 0} → (A → Type 0) → List A → Type 0
Every p [] = Unit {0}
Every p (x ∷ xs) = p x × Every p xs

-- some deed writes the cell
abbrev pub WritesTo : Cell → List Deed → Type 0
WritesTo c [] = ⊥
WritesTo c (Moved ∷ ds) = WritesTo c ds
WritesTo c (Got b ∷ ds) = WritesTo c ds
WritesTo c (Gave b v ∷ ds) = (c ≡ b) ⊎ WritesTo c ds
WritesTo c (GotFour b ∷ ds) = WritesTo c ds
WritesTo c (GaveFour b u ∷ ds) = Among c (four_cells b) ⊎ WritesTo c ds

-- each write gives a cell the value that it is to have
abbrev pub Gives : (Cell → ℕ) → Deed → Type 0
Gives value Moved = Unit {0}
Gives value (Got c) = Unit {0}
Gives value (Gave c v) = v ≡ value c
Gives value (GotFour c) = Unit {0}
Gives value (GaveFour c u) =
    (u.x ≡ value c) × (u.y ≡ value (behind 1 c)) × (u.z ≡ value (behind 2 c))
    × (u.w ≡ value (behind 3 c))

-- the function with another value at k
abbrev pub put : {A : Type 0} → ℕ → A → (ℕ → A) → ℕ → A
put k x f j = if j == k then x else f j

-- the state in which the k-th item has become x, and memory m
abbrev pub alone_state : State → ℕ → Item → Memory → State
alone_state s k x m = record { items = put k x s.items; memory = m; epochs = s.epochs }

-- the k-th item's steps by these deeds are a run, which leads it to y and makes the deeds' accesses
pub record AloneRun (d : Device) (s : State) (k : ℕ) (ds : List Deed) (y : Item) : Type 0 where
  pub is_run : IsRun d s (steps_of k ds)
  pub no_failure : NoFailure d s (steps_of k ds)
  pub ends : run d s (steps_of k ds) ≡ alone_state s k y (written ds s.memory)
  pub seen : accesses d s (steps_of k ds)
      ≡ deed_accesses (group_of d.launch k) k (s.epochs (group_of d.launch k)) ds
