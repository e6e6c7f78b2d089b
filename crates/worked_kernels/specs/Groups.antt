-- Worked terms: what their phases use, which barriers these need, and that every run of their
-- kernels keeps the headline.
use Rattle.std.specs.Prelude.{◌≡◌, ℕ, zero, suc, ◌*◌, ◌<◌, ◌^◌, Bool, true, false, List, [], ◌∷◌, length, slice_index, None}
use Rattle.scalar_ops.specs.declared.op.Op.TheVariants.{Add, Sub, Mul, Div, Min, Max}
use Rattle.lift_tree.specs.declared.term.Level.TheVariants.{Groups, Items}
use Rattle.lift_tree.specs.declared.term.Dimension.TheVariants as dimension
use Rattle.kernel_tree.specs.declared.tree.Dimension.TheVariants.{X}
use Rattle.kernel_tree.specs.Formula.{Formula, Number, Size, Variable, LoopVariable, Binary}
use Rattle.kernel_tree.specs.Code.{Input, Output, Local as LocalArray, FromZero, FromGroupId, FromLocalId, ByOne, ByGroupCount, ByLocalSize, Assigns, Loads, Stores, Code, End, Performs, Loops, Kernel}
use Rattle.kernel_tree.specs.Launch.{Launch, in_a_row}
use Rattle.barrier_placement.specs.declared.touches.Touch.{Touch}
use Rattle.barrier_placement.specs.Needed.{Needed}
use Rattle.lift_ir.specs.Types.{Ty, Scalar, ArrayOf, unflat}
use Rattle.lift_ir.specs.Layouts.{Split, Join, Slide, Pad}
use Rattle.lift_ir.specs.Terms.{Skip, Take, Each, Over, LocalMemory, Term, Literal, Bound, Source, Apply, Both, Project, Reshape, Map, Fold, Store, Copy}
use Rattle.lift_ir.specs.Scalars.{Scalars, scalars_of, no_scalars}
use Rattle.lift_ir.specs.Owner.{owner}
use Rattle.printed_form.specs.MapForms.{all_loops}
use Rattle.printed_form.specs.Marks.{Nowhere, Marks, laid_in}
use Rattle.printed_form.specs.Headline.{EveryRunKeeps}
use Rattle.worked_kernels.specs.Tiles.{tile_kernel, tile_cells, AreTiles, added, no_barriers, two_barriers}
use Rattle.group_phases.specs.Epochs.{fenced}
use Rattle.group_form.specs.Body.{first_index}
use Rattle.group_form.specs.Printer.{group_kernel_code}
use Rattle.group_form.specs.Uses.{phase_count, group_touches}

-- lengths are numbers
abbrev pub itself : ℕ → ℕ
itself n = n

-- so many numbers in a row
abbrev pub numbers : ℕ → Ty
numbers n = ArrayOf n Scalar

-- one input of n numbers
abbrev pub input_types : (n : ℕ) → ℕ → Ty
input_types n zero = numbers n
input_types n (suc a) = numbers 0

-- where each of them lies
abbrev pub input_marks : (n : ℕ) → ℕ → Marks
input_marks n zero = laid_in Input 0 (numbers n)
input_marks n (suc a) = λ cs p. Nowhere

-- they are the elements of this list
abbrev pub input_scalars : List ℕ → ℕ → Scalars
input_scalars xs zero = λ cs p. slice_index xs (first_index p)
input_scalars xs (suc a) = λ cs p. 0

-- a phase writes a local array, or reads it
abbrev pub use_of : (array : ℕ) → (writes aligned : Bool) → (phase : ℕ) → Touch
use_of a w s q = record { phase = q; buffer = a; writes = w; aligned = s; local = true }

-- Tiles of two are copied, and one is added to each element: mapWrg(\t. mapLcl(\x. x + 1,
-- toLocal(mapLcl(\x. x, t))), split(2, xs)), joined

-- a copy of the bound tile, of so many cells, in local memory
abbrev pub copy_over : {A : Type 0} → (len : A) → (cells : ℕ) → Term A
copy_over n cells =
    Copy LocalMemory (numbers cells)
    (Map (Over Items dimension.X) n Take (Bound 0) (Store Scalar (Bound 0)))

-- lengths may be numbers, or what spells them
abbrev pub added_tiles_over : {A : Type 0} → (two tiles : A) → Term A
added_tiles_over two tiles =
    Reshape (Join two)
    (Map (Over Groups dimension.X) tiles Skip (Reshape (Split two) (Source 0))
    (Map (Over Items dimension.X) two Take (copy_over two 2)
    (Store Scalar (Apply Add (Bound 0) (Literal 1)))))

-- so many tiles
abbrev pub added_tiles : ℕ → Term ℕ
added_tiles tiles = added_tiles_over 2 tiles

-- what the printer makes of them, where lengths are their spellings
abbrev pub added_tiles_code : Code
added_tiles_code =
    group_kernel_code (λ f. f) all_loops (λ v. 0) (λ v. ArrayOf (Size 0) Scalar) no_barriers
    (added_tiles_over (Number 2) (Binary Div (Size 0) (Number 2))) (ArrayOf (Size 0) Scalar)

-- each item reads what it copied, so no barrier is needed; every run of the kernel without barriers
-- keeps the headline, at every launch of one row
pub record AddedTilesKeep : Type 0 where
  pub phases : (tiles : ℕ) → phase_count (added_tiles tiles) ≡ 2
  pub touches : (tiles : ℕ)
      → group_touches (added_tiles tiles) ≡ use_of 0 true true 0 ∷ use_of 0 false true 1
      ∷ use_of 0 false true 1 ∷ []
  pub needed : (tiles : ℕ)
      → Needed (group_touches (added_tiles tiles)) false
      (phase_count (added_tiles tiles)) no_barriers
  pub code : added_tiles_code ≡ (tile_kernel false no_barriers).code
  pub keeps : (l : Launch) (tiles : ℕ) (xs out : List ℕ) (rest : ℕ) → AreTiles l tiles xs out
      → EveryRunKeeps (tile_kernel false no_barriers) l (tile_cells xs out rest)
      (λ a i. owner itself l (added_tiles tiles) (unflat (numbers (tiles * 2)) i))
      (added false xs ∷ [])

-- Of a zip of two copies, the second under a layout, only the first is named: mapWrg(\t. mapLcl(\p.
-- first(p), zip(toLocal(..), join(slide(1, 1, toLocal(..))))), split(2, xs)), joined

-- what a group makes of one tile
abbrev pub half_named_tile : Term ℕ
half_named_tile =
    Map (Over Items dimension.X) 2 (Each Take Skip)
    (Both true (copy_over 2 2) (Reshape (Join 1) (Reshape (Slide 1 1) (copy_over 2 2))))
    (Store Scalar (Project false (Bound 0)))

-- and of so many tiles, joined
abbrev pub half_named_tiles : ℕ → Term ℕ
half_named_tiles tiles =
    Reshape (Join 2)
    (Map (Over Groups dimension.X) tiles Skip (Reshape (Split 2) (Source 0)) half_named_tile)

-- so the last phase doesn't use the second copy, and no barrier is needed
pub record UnnamedCopiesAreUnused : Type 0 where
  pub touches : (tiles : ℕ)
      → group_touches (half_named_tiles tiles) ≡ use_of 0 true true 0 ∷ use_of 1 true true 1
      ∷ use_of 0 false true 2 ∷ use_of 0 false true 2 ∷ []
  pub needed : (tiles : ℕ)
      → Needed (group_touches (half_named_tiles tiles)) false
      (phase_count (half_named_tiles tiles)) no_barriers

-- A stencil by tiles: join(join(mapWrg(\t. mapLcl(\w. foldSeq(\a x. a + x, 0, w), slide(3, 1,
-- toLocal(mapLcl(\x. x, t)))), slide(4, 2, pad(1, 1, xs)))))

-- what a group makes of one tile: the sums of its two windows
abbrev pub summed_tile : Term ℕ
summed_tile =
    Map (Over Items dimension.X) 2 Skip (Reshape (Slide 3 1) (copy_over 4 4))
    (Fold 3 Take Scalar (Bound 0) (Literal 0) (Apply Add (Bound 1) (Bound 0)))

-- the tiles of the padded input, which overlap by two elements
abbrev pub padded_tiles : ℕ → Term ℕ
padded_tiles tiles = Reshape (Slide 4 2) (Reshape (Pad 1 1 (tiles * 2)) (Source 0))

-- the sums of so many tiles, joined
abbrev pub summed_tiles : ℕ → Term ℕ
summed_tiles tiles =
    Reshape (Join 1)
    (Reshape (Join 2)
    (Map (Over Groups dimension.X) tiles Skip (padded_tiles tiles) summed_tile))

-- where element i1 of tile i0 lies, two elements a tile
abbrev pub tile_place : Formula
tile_place = Binary Add (Binary Mul (LoopVariable 0) (Number 2)) (LoopVariable 1)

-- the input's element that stands there once it is padded
abbrev pub padded_place : Formula
padded_place =
    Binary Min (Binary Sub (Binary Max tile_place (Number 1)) (Number 1))
    (Binary Sub (Size 0) (Number 1))

-- the place in the tile of element i2 of window i1
abbrev pub in_window : Formula
in_window = Binary Add (LoopVariable 1) (LoopVariable 2)

-- an element of the padded input is copied to the local array
abbrev pub copy_turn : Code
copy_turn =
    Performs (Loads 0 (Input 0) padded_place)
    (Performs (Stores (LocalArray 0) (LoopVariable 1) (Variable 0)) End)

-- v2 = l0[i1 + i2]; v1 = v1 + v2;
abbrev pub sum_turn : Code
sum_turn =
    Performs (Loads 2 (LocalArray 0) in_window)
    (Performs (Assigns 1 (Binary Add (Variable 1) (Variable 2))) End)

-- o0[i0 * 2 + i1] = v1;
abbrev pub sum_store : Code
sum_store = Performs (Stores (Output 0) tile_place (Variable 1)) End

-- the elements of a window are added to v1, which is then stored
abbrev pub sum_loop : Code
sum_loop = Loops FromZero (Number 3) ByOne sum_turn sum_store

-- the sum of a window, from 0 on
abbrev pub window_turn : Code
window_turn = Performs (Assigns 1 (Number 0)) sum_loop

-- the windows of a tile, and the barrier that closes the body
abbrev pub windows : Code
windows = Loops (FromLocalId X) (Number 2) (ByLocalSize X) window_turn (fenced (two_barriers 2) End)

-- a tile: it is copied and, behind a barrier, summed by windows
abbrev pub sums_body : Code
sums_body =
    Loops (FromLocalId X) (Number 4) (ByLocalSize X) copy_turn (fenced (two_barriers 1) windows)

-- a barrier between the phases, and one that closes the body
abbrev pub sums_kernel : Kernel
sums_kernel = record {
  inputs = 1;
  outputs = 1;
  sizes = 1;
  locals = 4 ∷ [];
  privates = [];
  variables = 3;
  vectors = 0;
  local = None;
  code = Loops (FromGroupId X) (Binary Div (Size 0) (Number 2)) (ByGroupCount X) sums_body End;
}

-- the term's scalars, in a list
pub record AreSums (tiles : ℕ) (xs sums : List ℕ) : Type 0 where
  pub long : length sums ≡ tiles * 2
  pub each : (n : ℕ) → n < tiles * 2
      → slice_index sums n ≡ scalars_of itself (input_scalars xs) no_scalars (summed_tiles tiles) []
      (n ∷ [])

-- each item reads its neighbours' elements, so both barriers are needed; every run with them keeps
-- the headline, at every launch of one row
pub record SummedTilesKeep : Type 0 where
  pub phases : (tiles : ℕ) → phase_count (summed_tiles tiles) ≡ 2
  pub touches : (tiles : ℕ)
      → group_touches (summed_tiles tiles) ≡ use_of 0 true true 0 ∷ use_of 0 false false 1
      ∷ use_of 0 false false 1 ∷ []
  pub needed : (tiles : ℕ)
      → Needed (group_touches (summed_tiles tiles)) false (phase_count (summed_tiles tiles))
      two_barriers
  pub keeps : (l : Launch) (tiles : ℕ) (xs out sums : List ℕ) (rest : ℕ) → AreTiles l tiles xs out
      → 0 < tiles → tiles < 2 ^ 29 → AreSums tiles xs sums
      → EveryRunKeeps sums_kernel l (tile_cells xs out rest)
      (λ a i. owner itself l (summed_tiles tiles) (unflat (numbers (tiles * 2 * 1)) i)) (sums ∷ [])

-- of 1 to 6, over three tiles that use one local array in turn, every run of one group of two items
-- leaves 4, 6, 9, 12, 15 and 17
abbrev pub SixKeep : Type 0
SixKeep = (out : List ℕ) (rest : ℕ) → length out ≡ 6
    → EveryRunKeeps sums_kernel (in_a_row 2 2 (6 ∷ []))
    (tile_cells (1 ∷ 2 ∷ 3 ∷ 4 ∷ 5 ∷ 6 ∷ []) out rest)
    (λ a i. owner itself (in_a_row 2 2 (6 ∷ [])) (summed_tiles 3)
    (unflat (numbers 6) i)) ((4 ∷ 6 ∷ 9 ∷ 12 ∷ 15 ∷ 17 ∷ []) ∷ [])
