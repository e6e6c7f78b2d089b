-- A map over rows around a map over the places of a row, as one item takes its places.
use Rattle.std.specs.Prelude.{ℕ, ◌+◌, ◌*◌, ◌/◌, ◌%◌, ◌<◌, List, [], ◌∷◌}
use Rattle.kernel_tree.specs.Code.{Start, Stride, Code}
use Rattle.kernel_tree.specs.Device.{Cell}
use Rattle.kernel_tree.specs.Launch.{Launch}
use Rattle.lift_ir.specs.Types.{Ty}
use Rattle.lift_ir.specs.Terms.{LoadSet, Skip, Term, push}
use Rattle.lift_ir.specs.Scalars.{Scalars, at_index, scalars_of}
use Rattle.printed_form.specs.Counts.{Count, more, load_count}
use Rattle.printed_form.specs.Form.{IsLoaded, IsWritten}
use Rattle.printed_form.specs.MapForms.{MapForm, Alone, TurnCode, AreTurnsFrom}
use Rattle.printed_form.specs.Marks.{Marks, loaded_marks}
use Rattle.printed_form.specs.Runs.{Setting, Targets}
use Rattle.group_phases.specs.Grids.{Grid, Walk, one_row, places_taken, place_taken}

-- what there is of a nest of two maps but for its launch: their forms, how many rows and places,
-- the scalars that are loaded of a row and of a place, and the body. Variables from `variables` on
-- are for a row's scalars, from `inner` on for a place's
pub record Nest (A : Type 0) : Type 0 where
  pub grid : Grid
  pub rows_form : MapForm
  pub columns_form : MapForm
  pub row_loads : LoadSet
  pub loads : LoadSet
  pub body : Term A
  pub row_element : Ty
  pub element : Ty
  pub result : Ty
  pub types : ℕ → Ty  -- of the binders that the body names
  pub variables : Count
  pub inner : Count
  pub privates : ℕ

-- what stands for a row's scalars, for binders and places in that row, and where the value of each
-- place goes, by its number
pub record NestPlace : Type 0 where
  pub row_marks : Marks
  pub row_scalars : Scalars
  pub env : (row var : ℕ) → Marks
  pub sems : (row var : ℕ) → Scalars
  pub marks : (row : ℕ) → Marks
  pub scalars : (row : ℕ) → Scalars
  pub to : Marks

-- the scalars of the value at each place
abbrev pub nest_scalars : {A : Type 0} → (num : A → ℕ) → (sources : ℕ → Scalars) → Nest A
    → NestPlace → Scalars
nest_scalars num sources n p cs [] = 0
nest_scalars num sources n p cs (i ∷ r) =
    scalars_of num sources
    (push (at_index (i % n.grid.columns) (p.scalars (i / n.grid.columns))) (p.sems (i / n.grid.columns)))
    n.body cs r

-- as this item comes there
module _ {A : Type 0} (num : A → ℕ) (l : Launch) (item : ℕ) (ins : ℕ → Marks) (n : Nest A)
    (p : NestPlace) where
  -- the code of a place in this row
  abbrev pub IsPlaceCode : (row : ℕ) → TurnCode
  IsPlaceCode r us i before after =
      (inner : Code) × IsLoaded l item ins us n.loads (at_index i (p.marks r)) n.inner before inner
      × IsWritten l item ins num us
      (push (loaded_marks n.loads (at_index i (p.marks r)) n.inner) (p.env r)) n.privates
      (more n.inner (load_count n.loads)) n.body (at_index (r * n.grid.columns + i) p.to) inner
      after

  -- the code of a row: its loads, and then its places
  abbrev pub IsRowCode : Start → Stride → TurnCode
  IsRowCode s c us r before after =
      (mid : Code) × IsLoaded l item ins us n.row_loads (at_index r p.row_marks) n.variables before mid
      × AreTurnsFrom l item n.columns_form s c us n.grid.columns (IsPlaceCode r) mid after

  -- the code of the nest, each of whose maps has a start and a stride of its own
  abbrev pub IsNestCode : (row_start : Start) → (row_stride : Stride) → Start → Stride
      → (around : List ℕ) → (code rest : Code) → Type 0
  IsNestCode rs rc s c ts code rest =
      AreTurnsFrom l item n.rows_form rs rc ts n.grid.rows (IsRowCode s c) code rest

-- the cells of the places that a walk takes, and what they are to hold
abbrev pub PlacesOf : {A : Type 0} → (st : Setting) → (num : A → ℕ) → (sources : ℕ → Scalars)
    → Nest A → NestPlace → Walk → Cell → ℕ → Type 0
PlacesOf st num sources n p w c v =
    (t : ℕ) × (t < places_taken n.grid w)
    × Targets st n.result (at_index (place_taken n.grid w t) p.to)
    (at_index (place_taken n.grid w t) (nest_scalars num sources n p)) c v

-- a map of this length as a nest of one row, whose rows have no statement and no loads
abbrev pub one_map : {A : Type 0} → Nest A → (length : ℕ) → Nest A
one_map n length = record {
  grid = one_row length;
  rows_form = Alone;
  columns_form = n.columns_form;
  row_loads = Skip;
  loads = n.loads;
  body = n.body;
  row_element = n.row_element;
  element = n.element;
  result = n.result;
  types = n.types;
  variables = n.variables;
  inner = n.inner;
  privates = n.privates;
}

-- its code is the map's
abbrev pub MapsAreNests : Type 0 → Type 0
MapsAreNests A =
    (num : A → ℕ) (l : Launch) (item : ℕ) (ins : ℕ → Marks) (n : Nest A) (p : NestPlace)
    (length : ℕ) (rs : Start) (rc : Stride) (s : Start) (c : Stride) (around : List ℕ)
    (code rest : Code)
    → AreTurnsFrom l item n.columns_form s c around length
    (IsPlaceCode num l item ins (one_map n length) p 0) code rest
    → IsNestCode num l item ins (one_map n length) p rs rc s c around code rest
