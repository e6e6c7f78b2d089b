-- A worked kernel: tiles of two elements are copied to local memory, and one is added to each
-- element, by the item that copied it or by its neighbour.
use Rattle.std.specs.Prelude.{◌≡◌, ℕ, zero, suc, ◌+◌, ◌*◌, ◌-◌, ◌/◌, ◌%◌, ◌<◌, ◌≤◌, ◌^◌, Bool, true, false, not, List, [], ◌∷◌, length, map, slice_index, if◌then◌else◌, None}
use Rattle.scalar_ops.specs.declared.op.Op.TheVariants.{Add, Sub, Mul, Div}
use Rattle.kernel_tree.specs.declared.tree.Dimension.TheVariants.{X}
use Rattle.kernel_tree.specs.Formula.{Formula, Number, Variable, LoopVariable, Size, Binary}
use Rattle.kernel_tree.specs.Code.{Array, Input, Output, Local, Private, FromGroupId, ByGroupCount, FromLocalId, ByLocalSize, Loads, Stores, Code, End, Performs, Loops, Kernel}
use Rattle.kernel_tree.specs.Launch.{Launch, Cells, IsWhole, IsFlat, in_a_row, item_count, group_size, groups_across}
use Rattle.kernel_tree.specs.Device.{Cell, row}
use Rattle.barrier_placement.specs.declared.touches.Touch.{Touch}
use Rattle.barrier_placement.specs.Conflicts as placed
use Rattle.barrier_placement.specs.Fencing.{Fencing, Open, Fenced}
use Rattle.barrier_placement.specs.Needed.{Needed}
use Rattle.barrier_placement.specs.Separates.{Separates}
use Rattle.lift_ir.specs.Types.{Scalar, ArrayOf}
use Rattle.lift_ir.specs.Terms.{Skip, Take, Literal, Bound, Apply, Store, no_type}
use Rattle.lift_ir.specs.Scalars.{no_scalars}
use Rattle.printed_form.specs.Counts.{more, no_variables, one_word}
use Rattle.printed_form.specs.Headline.{EveryRunKeeps}
use Rattle.printed_form.specs.MapForms.{Looped}
use Rattle.printed_form.specs.Marks.{Spot}
use Rattle.printed_form.specs.Whole.{no_marks}
use Rattle.group_phases.specs.Epochs.{fenced}
use Rattle.group_phases.specs.Outcome.{BarriersServeAll}
use Rattle.group_phases.specs.Phases.{Phase, Place, PhaseList}

-- The kernel

-- where element i1 of tile i0 lies
abbrev pub tile_index : Formula
tile_index = Binary Add (Binary Mul (LoopVariable 0) (Number 2)) (LoopVariable 1)

-- l0[i1] = a0[((i0 * 2u) + i1)];
abbrev pub copy_turn : Code
copy_turn =
    Performs (Loads 0 (Input 0) tile_index)
    (Performs (Stores (Local 0) (LoopVariable 1) (Variable 0)) End)

-- the place in the tile that is read: its own, or the neighbour's
abbrev pub read_index : (neighbour : Bool) → Formula
read_index true = Binary Sub (Number 1) (LoopVariable 1)
read_index false = LoopVariable 1

-- the same, for the element with this number
abbrev pub read_place : (neighbour : Bool) → ℕ → ℕ
read_place true j = 1 - j
read_place false j = j

-- o0[((i0 * 2u) + i1)] = (l0[..] + 1u);
abbrev pub add_turn : (neighbour : Bool) → Code
add_turn neighbour =
    Performs (Loads 1 (Local 0) (read_index neighbour))
    (Performs (Stores (Output 0) tile_index (Binary Add (Variable 1) (Number 1))) End)

-- the loop of the copy, or that of the sums
abbrev pub phase_code : (neighbour : Bool) → ℕ → Code → Code
phase_code neighbour zero rest = Loops (FromLocalId X) (Number 2) (ByLocalSize X) copy_turn rest
phase_code neighbour (suc q) rest =
    Loops (FromLocalId X) (Number 2) (ByLocalSize X) (add_turn neighbour) rest

-- the two phases, with what stands before each and at the end
abbrev pub tile_body : (neighbour : Bool) → (ℕ → Fencing) → Code
tile_body neighbour fence =
    fenced (fence 0)
    (phase_code neighbour 0 (fenced (fence 1) (phase_code neighbour 1 (fenced (fence 2) End))))

-- for (uint i0 = (uint)get_group_id(0); i0 < (s0 / 2u); i0 += (uint)get_num_groups(0)) {..}, with
-- these barriers
abbrev pub tile_kernel : (neighbour : Bool) → (ℕ → Fencing) → Kernel
tile_kernel neighbour fence = record {
  inputs = 1;
  outputs = 1;
  sizes = 1;
  locals = 2 ∷ [];
  privates = [];
  variables = 2;
  vectors = 0;
  local = None;
  code =
      Loops (FromGroupId X) (Binary Div (Size 0) (Number 2)) (ByGroupCount X)
      (tile_body neighbour fence) End;
}

-- Barriers

-- each item copies elements of its own
abbrev pub writer : Touch
writer = record { phase = 0; buffer = 0; writes = true; aligned = true; local = true }

-- and reads the same, or its neighbour's
abbrev pub reader : (neighbour : Bool) → Touch
reader neighbour = record {
  phase = 1;
  buffer = 0;
  writes = false;
  aligned = not neighbour;
  local = true;
}

-- the uses of the local array by both phases
abbrev pub tile_touches : (neighbour : Bool) → List Touch
tile_touches neighbour = writer ∷ reader neighbour ∷ []

-- none at all
abbrev pub no_barriers : ℕ → Fencing
no_barriers q = Open

-- one before the second phase and one that closes
abbrev pub two_barriers : ℕ → Fencing
two_barriers zero = Open
two_barriers (suc q) = Fenced true false

-- none that closes
abbrev pub open_end : ℕ → Fencing
open_end (suc zero) = Fenced true false
open_end _ = Open

-- both for global memory
abbrev pub wrong_flag : ℕ → Fencing
wrong_flag zero = Open
wrong_flag (suc q) = Fenced false true

-- What it leaves

-- these numbers, and what the output and other memory hold before
abbrev pub tile_cells : (xs out : List ℕ) → (rest : ℕ) → Cells
tile_cells xs out rest = record { ins = xs ∷ []; outs = out ∷ []; rest = rest }

-- each two elements exchanged
abbrev pub exchanged : List ℕ → List ℕ
exchanged (x ∷ y ∷ xs) = y ∷ x ∷ exchanged xs
exchanged xs = xs

-- one more than each number, or than its neighbour, modulo 2^32
abbrev pub added : (neighbour : Bool) → List ℕ → List ℕ
added neighbour xs = map (λ x. (x + 1) % 2 ^ 32) (if neighbour then exchanged xs else xs)

-- the element with index i belongs to local item (i mod 2) mod L of group (i div 2) mod (G / L)
abbrev pub tile_owner : Launch → (array index : ℕ) → ℕ
tile_owner l a i = ((i / 2) % groups_across l) * l.local.0 + (i % 2) % l.local.0

-- a place of a tile belongs to the item that copies it
abbrev pub tile_filler : Launch → Cell → ℕ
tile_filler l b = b.home * l.local.0 + b.index % l.local.0

-- an admissible launch of one row, and cells for `tiles` tiles
pub record AreTiles (l : Launch) (tiles : ℕ) (xs out : List ℕ) : Type 0 where
  pub whole : IsWhole l
  pub flat : IsFlat l
  pub some_items : 0 < item_count l
  pub small_groups : group_size l ≤ 256
  pub few_items : item_count l ≤ 65536
  pub short : tiles < 2 ^ 30
  pub sizes : l.sizes ≡ (tiles * 2) ∷ []
  pub long : length xs ≡ tiles * 2
  pub out_long : length out ≡ tiles * 2

-- Its phases

-- the first index of a position, or 0
abbrev pub first_index : List ℕ → ℕ
first_index [] = 0
first_index (j ∷ r) = j

-- the copy, which leaves elements as they are, and the sums
abbrev pub tile_phases : ℕ → Phase ℕ
tile_phases zero = record {
  form = Looped;
  len = 2;
  loads = Take;
  body = Store Scalar (Bound 0);
  element = Scalar;
  result = Scalar;
  types = no_type;
  variables = no_variables;
  privates = 0;
  locals = 0;
}
tile_phases (suc q) = record {
  form = Looped;
  len = 2;
  loads = Take;
  body = Store Scalar (Apply Add (Bound 0) (Literal 1));
  element = Scalar;
  result = Scalar;
  types = no_type;
  variables = one_word;
  privates = 0;
  locals = 1;
}

-- where their elements lie and where their values go, at each turn
abbrev pub tile_places : (neighbour : Bool) → List ℕ → (turn phase : ℕ) → Place
tile_places neighbour xs i zero = record {
  env = no_marks;
  sems = no_scalars;
  marks = λ cs r. Spot (Input 0) (i * 2 + first_index r);
  scalars = λ cs r. slice_index xs (i * 2 + first_index r);
  to = λ cs r. Spot (Local 0) (first_index r);
}
tile_places neighbour xs i (suc q) = record {
  env = no_marks;
  sems = no_scalars;
  marks = λ cs r. Spot (Local 0) (read_place neighbour (first_index r));
  scalars = λ cs r. slice_index xs (i * 2 + read_place neighbour (first_index r));
  to = λ cs r. Spot (Output 0) (i * 2 + first_index r);
}

-- what a cell is to hold in this turn of a group
abbrev pub tile_value : Launch → (neighbour : Bool) → List ℕ → (group turn : ℕ) → Cell → ℕ
tile_value l neighbour xs g t b = in_array b.array b.index
  where
    in_array : Array → ℕ → ℕ
    in_array (Input a) i = slice_index (row (xs ∷ []) a) i
    in_array (Output a) i = slice_index (added neighbour xs) i
    in_array (Local a) i = slice_index xs ((g + t * groups_across l) * 2 + i)
    in_array (Private a) i = 0

-- the whole kernel, over so many tiles
abbrev pub tile_list : Launch → (neighbour : Bool) → (tiles : ℕ) → List ℕ → PhaseList ℕ
tile_list l neighbour tiles xs = record {
  once = false;
  turns = tiles;
  count = 2;
  variables = more one_word one_word;
  ins = no_marks;
  src = no_type;
  sources = no_scalars;
  top =
      record {
        loads = Skip;
        type = ArrayOf 2 Scalar;
        marks = λ i cs r. Spot (Input 0)
            (i * 2 + first_index r);
        scalars = λ i cs r. slice_index xs (i * 2 + first_index r);
      };
  phase = tile_phases;
  place = tile_places neighbour xs;
  touches = tile_touches neighbour;
  filled_in = λ a. 0;
  filler = tile_filler l;
  value = tile_value l neighbour xs;
}

-- Laws

-- whatever barriers separate the two phases, every run leaves the sums, each by its owner
abbrev pub TilesKeep : Type 0
TilesKeep =
    (l : Launch) (tiles : ℕ) (xs out : List ℕ) (rest : ℕ) (neighbour : Bool) (fence : ℕ → Fencing)
    → AreTiles l tiles xs out → Separates (tile_touches neighbour) placed.Local false 2 fence
    → EveryRunKeeps (tile_kernel neighbour fence) l (tile_cells xs out rest) (tile_owner l)
    (added neighbour xs ∷ [])

-- and the items of a group meet the same barriers, between which they use local memory apart
abbrev pub TilesServe : Type 0
TilesServe =
    (l : Launch) (tiles : ℕ) (xs out : List ℕ) (rest : ℕ) (neighbour : Bool) (fence : ℕ → Fencing)
    → AreTiles l tiles xs out → Separates (tile_touches neighbour) placed.Local false 2 fence
    → BarriersServeAll (tile_kernel neighbour fence) l (tile_cells xs out rest) (tile_filler l)

-- where each item reads what it copied itself, no barrier is needed, and every run of the kernel
-- without barriers keeps what it owes
abbrev pub AlignedTilesKeep : Type 0
AlignedTilesKeep = Needed (tile_touches false) false 2 no_barriers
    ×
    ((l : Launch) (tiles : ℕ) (xs out : List ℕ) (rest : ℕ) → AreTiles l tiles xs out
    → EveryRunKeeps (tile_kernel false no_barriers) l (tile_cells xs out rest) (tile_owner l)
    (added false xs ∷ []))

-- where it reads its neighbour's, two are needed
abbrev pub ExchangedTilesKeep : Type 0
ExchangedTilesKeep = Needed (tile_touches true) false 2 two_barriers
    ×
    ((l : Launch) (tiles : ℕ) (xs out : List ℕ) (rest : ℕ) → AreTiles l tiles xs out
    → EveryRunKeeps (tile_kernel true two_barriers) l (tile_cells xs out rest) (tile_owner l)
    (added true xs ∷ []))

-- two groups of two items, and 1, 2, 3 and 4
abbrev pub two_groups : Launch
two_groups = in_a_row 4 2 (4 ∷ [])

-- whatever the outputs and other memory hold, every run without barriers leaves 2, 3, 4 and 5
abbrev pub FourKeep : Type 0
FourKeep =
    (a b c d rest : ℕ)
    → EveryRunKeeps (tile_kernel false no_barriers) two_groups
    (tile_cells (1 ∷ 2 ∷ 3 ∷ 4 ∷ []) (a ∷ b ∷ c ∷ d ∷ []) rest) (tile_owner two_groups)
    ((2 ∷ 3 ∷ 4 ∷ 5 ∷ []) ∷ [])

-- and every run with two barriers, where each item reads its neighbour's number, 3, 2, 5 and 4
abbrev pub FourExchangedKeep : Type 0
FourExchangedKeep =
    (a b c d rest : ℕ)
    → EveryRunKeeps (tile_kernel true two_barriers) two_groups
    (tile_cells (1 ∷ 2 ∷ 3 ∷ 4 ∷ []) (a ∷ b ∷ c ∷ d ∷ []) rest) (tile_owner two_groups)
    ((3 ∷ 2 ∷ 5 ∷ 4 ∷ []) ∷ [])
