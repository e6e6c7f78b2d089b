-- The device: work-items in groups over shared memory, its events and its runs.
use Rattle.std.specs.Prelude.{◌≡◌, ℕ, ◌+◌, ◌*◌, ◌<◌, suc, Bool, false, List, [], ◌∷◌, length, map, replicate, ◌==◌, ◌&&◌, if◌then◌else◌, slice_index, slice_index_or}
use Rattle.kernel_tree.specs.declared.events.Event.{Event}
use Rattle.kernel_tree.specs.declared.events.Event.TheVariants.{Step, Release}
use Rattle.kernel_tree.specs.Formula.{Four, spread, Vars}
use Rattle.kernel_tree.specs.Code.{Array, Input, Output, Local, Private, Kernel}
use Rattle.kernel_tree.specs.Launch.{Launch, Cells, item_count, group_count, group_of, first_item, ids_of}
use Rattle.kernel_tree.specs.Item.{Frame, Item, item, Wants, Ends, Waits, Moves, Reads, Writes, ReadsFour, WritesFour, Fails, next}

-- what a run takes place on: the launch, and how many cells each array has
pub record Device : Type 0 where
  pub launch : Launch
  pub lengths : Array → ℕ

-- the n-th of lists, or an empty one
abbrev pub row : List (List ℕ) → ℕ → List ℕ
row rows n = slice_index_or rows n []

-- how many cells each array of a kernel has
abbrev pub length_in : Kernel → Cells → Array → ℕ
length_in k c (Input n) = length (row c.ins n)
length_in k c (Output n) = length (row c.outs n)
length_in k c (Local n) = slice_index k.locals n
length_in k c (Private n) = slice_index k.privates n

-- the device on which a kernel is run
abbrev pub device_of : Kernel → Launch → Cells → Device
device_of k l c = record { launch = l; lengths = length_in k c }

-- Memory

-- whose an array is: all have one input, a group has its local array and an item its private one
abbrev pub home : (group item : ℕ) → Array → ℕ
home g k (Input n) = 0
home g k (Output n) = 0
home g k (Local n) = g
home g k (Private n) = k

-- a cell: an array, whose it is, and where the cell stands in it
pub record Cell : Type 0 where
  pub array : Array
  pub home : ℕ
  pub index : ℕ

-- the cell that the k-th item names
abbrev pub cell_at : Launch → ℕ → Array → ℕ → Cell
cell_at l k a n = record { array = a; home = home (group_of l k) k a; index = n }

-- the cell that stands n behind one
abbrev pub behind : ℕ → Cell → Cell
behind n c = record { array = c.array; home = c.home; index = c.index + n }

-- a cell and the three behind it
abbrev pub four_cells : Cell → List Cell
four_cells c = c ∷ behind 1 c ∷ behind 2 c ∷ behind 3 c ∷ []

-- the first of the four cells at an offset, which counts in fours, with no wrapping
abbrev pub four_at : Launch → ℕ → Array → ℕ → Cell
four_at l k a n = cell_at l k a (4 * n)

-- whether two arrays are the same
abbrev pub same_array : Array → Array → Bool
same_array (Input m) (Input n) = m == n
same_array (Input m) _ = false
same_array (Output m) (Output n) = m == n
same_array (Output m) _ = false
same_array (Local m) (Local n) = m == n
same_array (Local m) _ = false
same_array (Private m) (Private n) = m == n
same_array (Private m) _ = false

-- whether two cells are the same
abbrev pub same_cell : Cell → Cell → Bool
same_cell c d = same_array c.array d.array && ((c.home == d.home) && (c.index == d.index))

-- what each cell holds
abbrev pub Memory : Type 0
Memory = Cell → ℕ

-- memory with this word in the cell
unfoldable pub write : Cell → ℕ → Memory → Memory
write c v m d = if same_cell d c then v else m d

-- the words of four cells, and memory with these words there
abbrev pub four_words : Memory → Cell → Four
four_words m c = record { x = m c; y = m (behind 1 c); z = m (behind 2 c); w = m (behind 3 c) }

-- memory with these words in four cells
abbrev pub write_four : Cell → Four → Memory → Memory
write_four c u m =
    write (behind 3 c) u.w (write (behind 2 c) u.z (write (behind 1 c) u.y (write c u.x m)))

-- which accesses a barrier's flag orders
pub data Fence : Type 0 where
  LocalFence GlobalFence : Fence

-- the flag that orders accesses of an array
abbrev pub fence_of_array : Array → Fence
fence_of_array (Input n) = GlobalFence
fence_of_array (Output n) = GlobalFence
fence_of_array (Local n) = LocalFence
fence_of_array (Private n) = GlobalFence

-- the flag that orders accesses of a cell
abbrev pub fence_of : Cell → Fence
fence_of c = fence_of_array c.array

-- States

-- where each item stands, what memory holds, and how often each group was released
pub record State : Type 0 where
  pub items : ℕ → Item
  pub memory : Memory
  pub epochs : (group : ℕ) → Fence → ℕ  -- how many of the group's releases so far had the flag

-- memory that holds the cells, and one word elsewhere
abbrev pub contents : Cells → Memory
contents c d = contents_of d.array d.index
  where
    contents_of : Array → ℕ → ℕ
    contents_of (Input n) i = slice_index (row c.ins n) i
    contents_of (Output n) i = slice_index (row c.outs n) i
    contents_of (Local n) i = c.rest
    contents_of (Private n) i = c.rest

-- the variables of a kernel, all with this word
abbrev pub first_vars : Kernel → ℕ → Vars
first_vars k n = record {
  words = replicate k.variables n;
  vectors = replicate k.vectors (spread n);
}

-- the state in which a kernel begins, where memory holds the cells alone
abbrev pub start_state : Kernel → Cells → State
start_state k c = record {
  items = λ j. item k.code [] (first_vars k c.rest);
  memory = contents c;
  epochs = λ g f. 0;
}

-- a state in which a kernel may begin: all memory but the inputs holds anything
pub record IsStart (k : Kernel) (l : Launch) (c : Cells) (s : State) : Type 0 where
  pub vars : ℕ → Vars
  pub long : (j : ℕ) → j < item_count l → length (vars j).words ≡ k.variables
  pub wide : (j : ℕ) → j < item_count l → length (vars j).vectors ≡ k.vectors
  pub items : (j : ℕ) → j < item_count l → s.items j ≡ item k.code [] (vars j)
  pub inputs : (a i : ℕ) → i < length (row c.ins a)
      → s.memory (record { array = Input a; home = 0; index = i }) ≡ slice_index (row c.ins a) i
  pub epochs : (g : ℕ) (f : Fence) → s.epochs g f ≡ 0

-- Events

-- what the k-th item does next
abbrev pub wants : Device → State → ℕ → Wants
wants d s k = next (ids_of d.launch k) (s.items k)

-- it has neither ended nor stands at a barrier
abbrev pub CanStep : Wants → Type 0
CanStep Ends = ⊥
CanStep (Waits on_local on_global x) = ⊥
CanStep (Moves x) = Unit {0}
CanStep (Reads a n f) = Unit {0}
CanStep (Writes a n v x) = Unit {0}
CanStep (ReadsFour a n f) = Unit {0}
CanStep (WritesFour a n u x) = Unit {0}
CanStep (Fails f) = Unit {0}

-- a loop but for its variable: at the same turn numbers the variables of two items may differ
abbrev pub still : Frame → Frame
still f = record {
  turn = f.turn;
  variable = 0;
  bound = f.bound;
  stride = f.stride;
  body = f.body;
  after = f.after;
}

-- both stand at one barrier with the same turn numbers
abbrev pub StandTogether : Wants → Wants → Type 0
StandTogether (Waits a b x) (Waits c d y) =
    (a ≡ c) × (b ≡ d) × (x.code ≡ y.code) × (map still x.frames ≡ map still y.frames)
StandTogether (Waits a b x) _ = ⊥
StandTogether Ends _ = ⊥
StandTogether (Moves x) _ = ⊥
StandTogether (Reads a n f) _ = ⊥
StandTogether (Writes a n v x) _ = ⊥
StandTogether (ReadsFour a n f) _ = ⊥
StandTogether (WritesFour a n u x) _ = ⊥
StandTogether (Fails f) _ = ⊥

-- all items of the group stand at one barrier with the same turn numbers
abbrev pub AllTogether : Device → State → ℕ → Type 0
AllTogether d s g =
    (j : ℕ) → group_of d.launch j ≡ g
    → StandTogether (wants d s (first_item d.launch g)) (wants d s j)

-- an event that may come next
abbrev pub Enabled : Device → State → Event → Type 0
Enabled d s (Step k) = (k < item_count d.launch) × CanStep (wants d s k)
Enabled d s (Release g) = (g < group_count d.launch) × AllTogether d s g

-- whether an event moves the j-th item
abbrev pub moves : Launch → Event → ℕ → Bool
moves l (Step k) j = j == k
moves l (Release g) j = group_of l j == g

-- an item after its event, where the memory is m
abbrev pub taken : Launch → ℕ → Wants → Memory → Item → Item
taken l k (Waits a b x) m y = x
taken l k (Moves x) m y = x
taken l k (Reads a n f) m y = f (m (cell_at l k a n))
taken l k (Writes a n v x) m y = x
taken l k (ReadsFour a n f) m y = f (four_words m (four_at l k a n))
taken l k (WritesFour a n u x) m y = x
taken l k Ends m y = y
taken l k (Fails f) m y = y

-- the memory after what the k-th item wants is done
abbrev pub stored : Launch → ℕ → Wants → Memory → Memory
stored l k (Writes a n v x) m = write (cell_at l k a n) v m
stored l k (WritesFour a n u x) m = write_four (four_at l k a n) u m
stored l k Ends m = m
stored l k (Waits a b x) m = m
stored l k (Moves x) m = m
stored l k (Reads a n f) m = m
stored l k (ReadsFour a n f) m = m
stored l k (Fails f) m = m

-- the memory after an event
abbrev pub memory_after : Device → State → Event → Memory
memory_after d s (Step k) = stored d.launch k (wants d s k) s.memory
memory_after d s (Release g) = s.memory

-- whether a barrier with these flags has this one
abbrev pub is_flagged : (on_local on_global : Bool) → Fence → Bool
is_flagged on_local on_global LocalFence = on_local
is_flagged on_local on_global GlobalFence = on_global

-- whether an item waits at a barrier with this flag
abbrev pub has_flag : Wants → Fence → Bool
has_flag (Waits on_local on_global x) f = is_flagged on_local on_global f
has_flag Ends f = false
has_flag (Moves x) f = false
has_flag (Reads a n g) f = false
has_flag (Writes a n v x) f = false
has_flag (ReadsFour a n g) f = false
has_flag (WritesFour a n u x) f = false
has_flag (Fails g) f = false

-- whether an event is a release of the group with the flag
abbrev pub releases : Device → State → Event → ℕ → Fence → Bool
releases d s (Step k) h f = false
releases d s (Release g) h f = (h == g) && has_flag (wants d s (first_item d.launch g)) f

-- the state after an event
unfoldable pub after : Device → State → Event → State
after d s e = record {
  items = λ j. if moves d.launch e j
      then taken d.launch j (wants d s j) s.memory (s.items j)
      else s.items j;
  memory = memory_after d s e;
  epochs = λ g f. if releases d s e g f then suc (s.epochs g f) else s.epochs g f;
}

-- Runs

-- the state after events
abbrev pub run : Device → State → List Event → State
run d s [] = s
run d s (e ∷ es) = run d (after d s e) es

-- each event is enabled in its turn
abbrev pub IsRun : Device → State → List Event → Type 0
IsRun d s [] = Unit {0}
IsRun d s (e ∷ es) = Enabled d s e × IsRun d (after d s e) es

-- all items have ended
abbrev pub AllEnded : Device → State → Type 0
AllEnded d s = (k : ℕ) → k < item_count d.launch → wants d s k ≡ Ends

-- no event is enabled
abbrev pub IsStuck : Device → State → Type 0
IsStuck d s = (e : Event) → Enabled d s e → ⊥
