-- Kernels over rows and columns, with ifs and over fours, whose runs are known.
use Rattle.std.specs.Prelude.{ℕ, List, [], ◌∷◌, ◌++◌, Some, None, replicate, map, filter}
use Rattle.scalar_ops.specs.declared.op.Op.TheVariants.{Add, Mul, Div}
use Rattle.kernel_tree.specs.declared.events.Event.{Event}
use Rattle.kernel_tree.specs.declared.events.Event.TheVariants.{Step}
use Rattle.kernel_tree.specs.declared.tree.Dimension.TheVariants.{X, Y}
use Rattle.kernel_tree.specs.Formula.{Formula, Number, Variable, LoopVariable, Size, Id, LocalId, Binary, Vector, Spread, Each}
use Rattle.kernel_tree.specs.Code.{Input, Output, Local, FromGlobalId, FromGroupId, FromLocalId, ByGlobalSize, ByGroupCount, End, Performs, Loads, Stores, LoadsFour, StoresFour, Loops, Guards, Kernel}
use Rattle.kernel_tree.specs.Launch.{Launch, in_a_row, Cells}
use Rattle.kernel_tree.specs.Device.{Device, device_of, State, start_state, run}
use Rattle.kernel_tree.specs.Histories.{touches, history}

-- ((i0 * 3u) + i1)
abbrev pub cell_index : Formula
cell_index = Binary Add (Binary Mul (LoopVariable 0) (Number 3)) (LoopVariable 1)

-- for (uint i0 = (uint)get_global_id(1); i0 < 2u; i0 += (uint)get_global_size(1)) {
-- for (uint i1 = (uint)get_global_id(0); i1 < 3u; i1 += (uint)get_global_size(0)) { v0 = a0[..];
-- o0[..] = (v0 + 1u); } }
abbrev pub row_kernel : Kernel
row_kernel = record {
  inputs = 1;
  outputs = 1;
  sizes = 0;
  locals = [];
  privates = [];
  variables = 1;
  vectors = 0;
  local = None;
  code = Loops (FromGlobalId Y) (Number 2) (ByGlobalSize Y)
      (Loops (FromGlobalId X) (Number 3) (ByGlobalSize X)
      (Performs (Loads 0 (Input 0) cell_index)
      (Performs (Stores (Output 0) cell_index (Binary Add (Variable 0) (Number 1))) End))
      End)
      End;
}

-- two rows of two items
abbrev pub two_by_two : Launch
two_by_two = record { global = (2, 2); local = (1, 1); sizes = [] }

-- six words in, and six out
abbrev pub six_words : Cells
six_words = record {
  ins = (1 ∷ 2 ∷ 3 ∷ 4 ∷ 5 ∷ 6 ∷ []) ∷ [];
  outs = (0 ∷ 0 ∷ 0 ∷ 0 ∷ 0 ∷ 0 ∷ []) ∷ [];
  rest = 0;
}

-- item after item
abbrev pub row_events : List Event
row_events =
    replicate 9 (Step 0) ++ replicate 6 (Step 1) ++ replicate 9 (Step 2) ++ replicate 6 (Step 3)

-- the device of that kernel
abbrev pub row_device : Device
row_device = device_of row_kernel two_by_two six_words

-- where its items begin
abbrev pub row_start : State
row_start = start_state row_kernel six_words

-- the output cells that the k-th item writes
abbrev pub row_writes : ℕ → List ℕ
row_writes k =
    map (λ t. t.cell.index)
    (filter (λ t. t.writes) (touches (history row_device row_start row_events k)))

-- ((i0 * 2u) + (uint)get_local_id(0))
abbrev pub tile_index : Formula
tile_index = Binary Add (Binary Mul (LoopVariable 0) (Number 2)) (Id X LocalId)

-- for groups of four: for (uint i0 = (uint)get_group_id(0); i0 < (s0 / 2u); i0 +=
-- (uint)get_num_groups(0)) {
-- if ((uint)get_local_id(0) < 2u) { v0 = a0[..]; l0[(uint)get_local_id(0)] = v0; }
-- if ((uint)get_local_id(0) < 2u) { v1 = l0[(uint)get_local_id(0)]; o0[..] = (v1 + 1u); } }
abbrev pub if_kernel : Kernel
if_kernel = record {
  inputs = 1;
  outputs = 1;
  sizes = 1;
  locals = 2 ∷ [];
  privates = [];
  variables = 2;
  vectors = 0;
  local = Some (4, 1);
  code = Loops (FromGroupId X) (Binary Div (Size 0) (Number 2)) (ByGroupCount X)
      (Guards (FromLocalId X) (Number 2)
      (Performs (Loads 0 (Input 0) tile_index)
      (Performs (Stores (Local 0) (Id X LocalId) (Variable 0)) End))
      (Guards (FromLocalId X) (Number 2)
      (Performs (Loads 1 (Local 0) (Id X LocalId))
      (Performs (Stores (Output 0) tile_index (Binary Add (Variable 1) (Number 1))) End))
      End))
      End;
}

-- four items in one group, and the size 4
abbrev pub four_in_a_group : Launch
four_in_a_group = in_a_row 4 4 (4 ∷ [])

-- four words in, and four out
abbrev pub four_words_in : Cells
four_words_in =
    record { ins = (1 ∷ 2 ∷ 3 ∷ 4 ∷ []) ∷ []; outs = (0 ∷ 0 ∷ 0 ∷ 0 ∷ []) ∷ []; rest = 0 }

-- the two items that enter, and the two that pass
abbrev pub if_events : List Event
if_events =
    replicate 15 (Step 0) ++ replicate 15 (Step 1) ++ replicate 7 (Step 2) ++ replicate 7 (Step 3)

-- the device of that kernel
abbrev pub if_device : Device
if_device = device_of if_kernel four_in_a_group four_words_in

-- where its items begin
abbrev pub if_start : State
if_start = start_state if_kernel four_words_in

-- for (uint i0 = (uint)get_global_id(0); i0 < 2u; i0 += (uint)get_global_size(0)) { w0 = vload4(i0,
-- a0); vstore4((w0 + (uint4)(1u)), i0, o0); }
abbrev pub vector_kernel : Kernel
vector_kernel = record {
  inputs = 1;
  outputs = 1;
  sizes = 0;
  locals = [];
  privates = [];
  variables = 0;
  vectors = 1;
  local = None;
  code = Loops (FromGlobalId X) (Number 2) (ByGlobalSize X)
      (Performs (LoadsFour 0 (Input 0) (LoopVariable 0))
      (Performs
      (StoresFour (Output 0) (LoopVariable 0) (Each Add (Vector 0) (Spread (Number 1)))) End))
      End;
}

-- eight words in, and eight out
abbrev pub eight_words : Cells
eight_words = record {
  ins = (1 ∷ 2 ∷ 3 ∷ 4 ∷ 5 ∷ 6 ∷ 7 ∷ 8 ∷ []) ∷ [];
  outs = (0 ∷ 0 ∷ 0 ∷ 0 ∷ 0 ∷ 0 ∷ 0 ∷ 0 ∷ []) ∷ [];
  rest = 0;
}

-- item after item
abbrev pub vector_events : List Event
vector_events = replicate 4 (Step 0) ++ replicate 4 (Step 1)

-- the device of that kernel
abbrev pub vector_device : Device
vector_device = device_of vector_kernel (in_a_row 2 1 []) eight_words

-- where its items begin
abbrev pub vector_start : State
vector_start = start_state vector_kernel eight_words

-- the words at these places of the first output after the events
abbrev pub cells_after : Device → State → List Event → List ℕ → List ℕ
cells_after d s es places =
    map (λ i. (run d s es).memory (record { array = Output 0; home = 0; index = i })) places
