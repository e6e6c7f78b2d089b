-- Worked kernels.
use Rattle.std.specs.Prelude.{◌≡◌, ℕ, ◌+◌, ◌*◌, ◌/◌, ◌%◌, ◌<◌, ◌^◌, true, false, List, [], ◌∷◌, length, map, None}
use Rattle.scalar_ops.specs.declared.op.Op.TheVariants.{Add, Mul, Div}
use Rattle.lift_tree.specs.declared.term.Level.TheVariants as level
use Rattle.lift_tree.specs.declared.term.Dimension.TheVariants as dimension
use Rattle.kernel_tree.specs.declared.tree.Dimension.TheVariants.{X, Y}
use Rattle.kernel_tree.specs.Formula.{Formula, Number, Variable, LoopVariable, Size, Binary, Vector, Spread}
use Rattle.kernel_tree.specs.Formula as lanes
use Rattle.kernel_tree.specs.Code.{Input, Output, Private, FromZero, ByOne, FromGlobalId, ByGlobalSize, Code, End, Performs, Assigns, Loads, Stores, LoadsFour, StoresFour, Loops, Kernel}
use Rattle.kernel_tree.specs.Launch.{Launch, Cells, IsWhole, IsFlat, in_a_row, item_at, item_count}
use Rattle.lift_ir.specs.Types.{Scalar, PairOf, ArrayOf, four}
use Rattle.lift_ir.specs.Layouts.{Split, Join}
use Rattle.lift_ir.specs.Terms.{Skip, Take, TakeFour, Over, Sequential, PrivateMemory, Term, Literal, Bound, Source, Apply, ApplyLanes, Both, Project, Reshape, Map, Fold, Store, Copy}
use Rattle.printed_form.specs.Headline.{EveryRunKeeps}

-- one work-item, and no sizes
abbrev pub one_item : Launch
one_item = in_a_row 1 1 []

-- ---- a sum, from 5 on, of partial sums in a private array
abbrev pub sums : Term ℕ
sums =
    Fold 2 Take Scalar
    (Copy PrivateMemory (ArrayOf 2 Scalar)
    (Reshape (Join 1) (Map Sequential 2 Skip (Reshape (Split 2) (Source 0))
    (Fold 2 Take Scalar (Bound 0) (Literal 0) (Apply Add (Bound 1) (Bound 0))))))
    (Literal 5) (Apply Add (Bound 1) (Bound 0))

-- v0 = v0 + v1;
abbrev pub add_inner : Code
add_inner = Performs (Assigns 0 (Binary Add (Variable 0) (Variable 1))) End

-- v1 = a0[i0 * 2 + i1]; and it is added to the row's sum
abbrev pub inner_body : Code
inner_body =
    Performs (Loads 1 (Input 0)
    (Binary Add (Binary Mul (LoopVariable 0) (Number 2)) (LoopVariable 1))) add_inner

-- p0[i0] = v0;
abbrev pub inner_store : Code
inner_store = Performs (Stores (Private 0) (LoopVariable 0) (Variable 0)) End

-- the elements of a row are added to v0, which is then stored
abbrev pub inner_loop : Code
inner_loop = Loops FromZero (Number 2) ByOne inner_body inner_store

-- a row's sum, from 0 on
abbrev pub row_body : Code
row_body = Performs (Assigns 0 (Number 0)) inner_loop

-- v2 = v2 + v3;
abbrev pub add_outer : Code
add_outer = Performs (Assigns 2 (Binary Add (Variable 2) (Variable 3))) End

-- v3 = p0[i0]; and it is added to the whole sum
abbrev pub outer_body : Code
outer_body = Performs (Loads 3 (Private 0) (LoopVariable 0)) add_outer

-- o0[0u] = v2;
abbrev pub outer_store : Code
outer_store = Performs (Stores (Output 0) (Number 0) (Variable 2)) End

-- the partial sums are added to v2, which is then stored
abbrev pub outer_loop : Code
outer_loop = Loops FromZero (Number 2) ByOne outer_body outer_store

-- the whole sum, from 5 on
abbrev pub outer : Code
outer = Performs (Assigns 2 (Number 5)) outer_loop

-- for (i0 ..) { v0 = 0u; for (i1 ..) { v1 = a0[i0 * 2 + i1]; v0 = v0 + v1; } p0[i0] = v0; } v2 =
-- 5u; for (i0 ..) { v3 = p0[i0]; v2 = v2 + v3; } o0[0u] = v2;
abbrev pub sums_kernel : Kernel
sums_kernel = record {
  inputs = 1;
  outputs = 1;
  sizes = 0;
  locals = [];
  privates = 2 ∷ [];
  variables = 4;
  vectors = 0;
  local = None;
  code = Loops FromZero (Number 2) ByOne row_body outer;
}

-- 1, 2, 3 and 4, and what the output and other memory hold before
abbrev pub sums_cells : (rest out : ℕ) → Cells
sums_cells rest out = record {
  ins = (1 ∷ 2 ∷ 3 ∷ 4 ∷ []) ∷ [];
  outs = (out ∷ []) ∷ [];
  rest = rest;
}

-- of 1, 2, 3 and 4 every run leaves 15, whatever other memory holds
abbrev pub SumsKeep : Type 0
SumsKeep =
    (rest out : ℕ)
    → EveryRunKeeps sums_kernel one_item (sums_cells rest out) (λ array index. 0) ((15 ∷ []) ∷ [])

-- ---- an accumulator of two components: from (0, 1) on, (a, b) and x give (b, a + x)
abbrev pub swaps : Term ℕ
swaps =
    Fold 3 Take (PairOf Scalar Scalar) (Source 0) (Both false (Literal 0) (Literal 1))
    (Both false (Project true (Bound 1)) (Apply Add (Project false (Bound 1)) (Bound 0)))

-- v0 = v3; v1 = v4;
abbrev pub swap_back : Code
swap_back = Performs (Assigns 0 (Variable 3)) (Performs (Assigns 1 (Variable 4)) End)

-- the new accumulator is put together in temporaries, and then moved
abbrev pub swap_new : Code
swap_new =
    Performs (Assigns 3 (Variable 1))
    (Performs (Assigns 4 (Binary Add (Variable 0) (Variable 2))) swap_back)

-- v2 = a0[i0]; and it goes into the accumulator
abbrev pub swap_body : Code
swap_body = Performs (Loads 2 (Input 0) (LoopVariable 0)) swap_new

-- each component is stored to an output of its own
abbrev pub swap_store : Code
swap_store =
    Performs (Stores (Output 0) (Number 0) (Variable 0))
    (Performs (Stores (Output 1) (Number 0) (Variable 1)) End)

-- each element goes into the accumulator, which is then stored
abbrev pub swap_loop : Code
swap_loop = Loops FromZero (Number 3) ByOne swap_body swap_store

-- v0 = 0u; v1 = 1u; for (i0 ..) { v2 = a0[i0]; v3 = v1; v4 = v0 + v2; v0 = v3; v1 = v4; } o0[0u] =
-- v0; o1[0u] = v1;
abbrev pub swaps_kernel : Kernel
swaps_kernel = record {
  inputs = 1;
  outputs = 2;
  sizes = 0;
  locals = [];
  privates = [];
  variables = 5;
  vectors = 0;
  local = None;
  code = Performs (Assigns 0 (Number 0)) (Performs (Assigns 1 (Number 1)) swap_loop);
}

-- 5, 6 and 7, and what the outputs and other memory hold before
abbrev pub swaps_cells : (rest first second : ℕ) → Cells
swaps_cells rest o p = record {
  ins = (5 ∷ 6 ∷ 7 ∷ []) ∷ [];
  outs = (o ∷ []) ∷ (p ∷ []) ∷ [];
  rest = rest;
}

-- of 5, 6 and 7 every run leaves 7 and 12
abbrev pub SwapsKeep : Type 0
SwapsKeep =
    (rest o p : ℕ)
    → EveryRunKeeps swaps_kernel one_item (swaps_cells rest o p) (λ array index. 0)
    ((7 ∷ []) ∷ (12 ∷ []) ∷ [])

-- ---- a map over the launch that adds 1 to each of N elements
abbrev pub increments : ℕ → Term ℕ
increments n =
    Map (Over level.Launch dimension.X) n Take (Source 0)
    (Store Scalar (Apply Add (Bound 0) (Literal 1)))

-- o0[i0] = (v0 + 1u);
abbrev pub turn_store : Code
turn_store = Performs (Stores (Output 0) (LoopVariable 0) (Binary Add (Variable 0) (Number 1))) End

-- v0 = a0[i0]; and one more is stored
abbrev pub turn_body : Code
turn_body = Performs (Loads 0 (Input 0) (LoopVariable 0)) turn_store

-- for (uint i0 = (uint)get_global_id(0); i0 < s0; i0 += (uint)get_global_size(0)) { v0 = a0[i0];
-- o0[i0] = (v0 + 1u); }
abbrev pub increments_kernel : Kernel
increments_kernel = record {
  inputs = 1;
  outputs = 1;
  sizes = 1;
  locals = [];
  privates = [];
  variables = 1;
  vectors = 0;
  local = None;
  code = Loops (FromGlobalId X) (Size 0) (ByGlobalSize X) turn_body End;
}

-- these elements, and what the output and other memory hold before
abbrev pub increments_cells : List ℕ → List ℕ → ℕ → Cells
increments_cells xs out rest = record { ins = xs ∷ []; outs = out ∷ []; rest = rest }

-- one more than each, modulo 2^32
abbrev pub incremented : List ℕ → List ℕ
incremented xs = map (λ x. (x + 1) % 2 ^ 32) xs

-- at every launch of one row, over fewer than 2^31 elements, every run leaves the sums, each
-- written by the work-item of its index modulo G
abbrev pub IncrementsKeep : Type 0
IncrementsKeep =
    (l : Launch) (xs out : List ℕ) (rest : ℕ) → IsWhole l → IsFlat l → 0 < item_count l
    → item_count l < 2 ^ 31 → l.sizes ≡ length xs ∷ [] → length xs < 2 ^ 31
    → length out ≡ length xs
    → EveryRunKeeps increments_kernel l (increments_cells xs out rest) (λ array i. i % l.global.0)
    (incremented xs ∷ [])

-- ---- the same by vectors: a map over the launch that adds 1 to each of N vectors of four
abbrev pub four_increments : ℕ → Term ℕ
four_increments n =
    Reshape (Join 4)
    (Map (Over level.Launch dimension.X) n TakeFour (Reshape (Split 4) (Source 0))
    (Store four (ApplyLanes Add true false (Bound 0) (Literal 1))))

-- vstore4((w0 + (uint4)(1u)), i0, o0);
abbrev pub four_store : Code
four_store =
    Performs
    (StoresFour (Output 0) (LoopVariable 0) (lanes.Each Add (Vector 0) (Spread (Number 1)))) End

-- w0 = vload4(i0, a0); and one more in each lane is stored
abbrev pub four_body : Code
four_body = Performs (LoadsFour 0 (Input 0) (LoopVariable 0)) four_store

-- for (uint i0 = (uint)get_global_id(0); i0 < (s0 / 4u); i0 += (uint)get_global_size(0)) {
-- w0 = vload4(i0, a0); vstore4((w0 + (uint4)(1u)), i0, o0); }
abbrev pub four_increments_kernel : Kernel
four_increments_kernel = record {
  inputs = 1;
  outputs = 1;
  sizes = 1;
  locals = [];
  privates = [];
  variables = 0;
  vectors = 1;
  local = None;
  code = Loops (FromGlobalId X) (Binary Div (Size 0) (Number 4)) (ByGlobalSize X) four_body End;
}

-- at every launch of one row, over fewer than 2^31 elements, every run leaves the sums, each
-- written by the work-item of its vector's index modulo G
abbrev pub FourIncrementsKeep : Type 0
FourIncrementsKeep =
    (l : Launch) (n : ℕ) (xs out : List ℕ) (rest : ℕ) → IsWhole l → IsFlat l → 0 < item_count l
    → item_count l < 2 ^ 31 → l.sizes ≡ (n * 4) ∷ [] → n * 4 < 2 ^ 31
    → length xs ≡ n * 4 → length out ≡ n * 4
    → EveryRunKeeps four_increments_kernel l (increments_cells xs out rest)
    (λ array i. (i / 4) % l.global.0) (incremented xs ∷ [])

-- ---- a pair of maps over the launch that adds 1 to each element of N rows of M
abbrev pub row_increments : (n m : ℕ) → Term ℕ
row_increments n m =
    Map (Over level.Launch dimension.Y) n Skip (Source 0)
    (Map (Over level.Launch dimension.X) m Take (Bound 0)
    (Store Scalar (Apply Add (Bound 0) (Literal 1))))

-- i0 * s1 + i1
abbrev pub place_in_rows : Formula
place_in_rows = Binary Add (Binary Mul (LoopVariable 0) (Size 1)) (LoopVariable 1)

-- o0[i0 * s1 + i1] = (v0 + 1u);
abbrev pub place_store : Code
place_store = Performs (Stores (Output 0) place_in_rows (Binary Add (Variable 0) (Number 1))) End

-- v0 = a0[i0 * s1 + i1]; and one more is stored
abbrev pub place_body : Code
place_body = Performs (Loads 0 (Input 0) place_in_rows) place_store

-- for (uint i1 = (uint)get_global_id(0); i1 < s1; i1 += (uint)get_global_size(0)) ..
abbrev pub along_row : Code
along_row = Loops (FromGlobalId X) (Size 1) (ByGlobalSize X) place_body End

-- for (uint i0 = (uint)get_global_id(1); i0 < s0; i0 += (uint)get_global_size(1)) that loop
abbrev pub row_increments_kernel : Kernel
row_increments_kernel = record {
  inputs = 1;
  outputs = 1;
  sizes = 2;
  locals = [];
  privates = [];
  variables = 1;
  vectors = 0;
  local = None;
  code = Loops (FromGlobalId Y) (Size 0) (ByGlobalSize Y) along_row End;
}

-- at every launch in two dimensions, over fewer than 2^31 elements, every run leaves the sums: that
-- of row i and column j is written by the work-item of row i modulo G1 and column j modulo G0
abbrev pub RowIncrementsKeep : Type 0
RowIncrementsKeep =
    (l : Launch) (n m : ℕ) (xs out : List ℕ) (rest : ℕ) → IsWhole l → 0 < item_count l
    → item_count l < 2 ^ 31 → l.sizes ≡ n ∷ m ∷ [] → n < 2 ^ 31 → m < 2 ^ 31 → n * m < 2 ^ 31
    → length xs ≡ n * m → length out ≡ n * m
    → EveryRunKeeps row_increments_kernel l (increments_cells xs out rest)
    (λ array place. item_at l (place % m % l.global.0) (place / m % l.global.1))
    (incremented xs ∷ [])
