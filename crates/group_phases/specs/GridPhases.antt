-- A map over the work-groups of a grid of groups, whose phases are maps over the items of a group
-- in two dimensions: each a nest of two maps. A map of one dimension is such a nest of one row.
use Rattle.std.specs.Prelude.{◌≡◌, ℕ, zero, suc, ◌+◌, ◌/◌, ◌%◌, ◌<◌, ◌⊎◌, Bool, List, [], ◌∷◌}
use Rattle.kernel_tree.specs.declared.tree.Dimension.TheVariants.{X, Y}
use Rattle.kernel_tree.specs.Formula.{Vars}
use Rattle.kernel_tree.specs.Code.{FromGroupId, FromLocalId, ByGroupCount, ByLocalSize, Code, Kernel}
use Rattle.kernel_tree.specs.Launch.{Launch, Cells, item_count, group_of}
use Rattle.kernel_tree.specs.Device.{Cell, cell_at, length_in}
use Rattle.barrier_placement.specs.declared.touches.Touch.{Touch}
use Rattle.lift_ir.specs.Types.{Ty, IsPosition}
use Rattle.lift_ir.specs.Scalars.{Scalars}
use Rattle.printed_form.specs.Marks.{Mark, Nowhere, Register, Lane, Spot, Marks, loaded_marks}
use Rattle.printed_form.specs.Counts.{Count, more, no_variables, load_count, private_count}
use Rattle.printed_form.specs.Form.{IsTurn, IsLoaded}
use Rattle.printed_form.specs.MapForms.{MapForm, variables_in}
use Rattle.printed_form.specs.Runs.{Fits, IsFilled, IsOpen}
use Rattle.group_phases.specs.Grids.{Grid, places, places_taken, place_taken, row_taken, group_walk, local_walk}
use Rattle.group_phases.specs.NestRows.{Nest, NestPlace, nest_scalars, IsNestCode}
use Rattle.group_phases.specs.Phases.{TurnElement, HeldBelow, cell_of}
use Rattle.group_phases.specs.Work.{Work, IsKnown}

-- A map over a grid of groups, of so many phases; its two maps in their forms, and `once` where
-- each group has one turn at most. A row's scalars are loaded where the row begins, a turn's
-- scalars where the turn begins. Turns are numbered row by row. Each phase is a nest, with the
-- local arrays that are filled before it; with the phases' uses of local arrays, and what each cell
-- is to hold in each turn of a group
pub record GridList (A : Type 0) : Type 0 where
  pub grid : Grid
  pub rows_form : MapForm
  pub columns_form : MapForm
  pub once : Bool
  pub count : ℕ
  pub variables : Count
  pub ins : ℕ → Marks
  pub src : ℕ → Ty
  pub sources : ℕ → Scalars
  pub row_top : TurnElement
  pub top : TurnElement
  pub phase : (phase : ℕ) → Nest A
  pub locals : (phase : ℕ) → ℕ
  pub place : (turn phase : ℕ) → NestPlace
  pub touches : List Touch
  pub filled_in : (array : ℕ) → ℕ
  pub filler : Cell → ℕ
  pub value : (group turn : ℕ) → Cell → ℕ

-- how many turns a group takes
abbrev pub group_turns : {A : Type 0} → Launch → GridList A → (group : ℕ) → ℕ
group_turns l p g = places_taken p.grid (group_walk l g)

-- the row of the whole map that the j-th item's group is in at its t-th turn
abbrev pub turn_row : {A : Type 0} → Launch → GridList A → (t j : ℕ) → ℕ
turn_row l p t j = row_taken p.grid (group_walk l (group_of l j)) t

-- and the turn of the whole map
abbrev pub turn_at : {A : Type 0} → Launch → GridList A → (t j : ℕ) → ℕ
turn_at l p t j = place_taken p.grid (group_walk l (group_of l j)) t

-- how many places of a phase the j-th item fills
abbrev pub places_of : {A : Type 0} → Launch → GridList A → (q j : ℕ) → ℕ
places_of l p q j = places_taken (p.phase q).grid (local_walk l j)

-- the u-th of them
abbrev pub place_at : {A : Type 0} → Launch → GridList A → (q j u : ℕ) → ℕ
place_at l p q j u = place_taken (p.phase q).grid (local_walk l j) u

-- the item takes this row, and this column, of the map over groups
abbrev pub IsGroupRow : Launch → (item row : ℕ) → Type 0
IsGroupRow l item r = IsTurn l item (FromGroupId Y) (ByGroupCount Y) r

abbrev pub IsGroupColumn : Launch → (item column : ℕ) → Type 0
IsGroupColumn l item i = IsTurn l item (FromGroupId X) (ByGroupCount X) i

module _ {A : Type 0} (num : A → ℕ) (l : Launch) (p : GridList A) where
  -- the scalars of phase q at turn i of the whole map
  abbrev pub grid_scalars : (i q : ℕ) → Scalars
  grid_scalars i q = nest_scalars num p.sources (p.phase q) (p.place i q)

  -- the j-th item's places of phase q in its t-th turn
  abbrev pub targets : (t q j : ℕ) → Cell → Type 0
  targets t q j b =
      (t < group_turns l p (group_of l j)) × (u : ℕ) × (u < places_of l p q j) × (cs : List Bool)
      × (r : List ℕ) × IsPosition (p.phase q).result cs r
      × (b ≡ cell_of l j ((p.place (turn_at l p t j) q).to cs (place_at l p q j u ∷ r)))

  -- this stands for one of a row's scalars, which is v
  abbrev pub IsRowScalar : (row : ℕ) → Mark → (v : ℕ) → Type 0
  IsRowScalar r m v =
      (cs : List Bool) × (q : List ℕ) × IsPosition p.row_top.type cs q
      × (loaded_marks p.row_top.loads (p.row_top.marks r) no_variables cs q ≡ m)
      × (p.row_top.scalars r cs q ≡ v)

  -- this stands for one of a turn's scalars, which is v
  abbrev pub IsTurnScalar : (i : ℕ) → Mark → (v : ℕ) → Type 0
  IsTurnScalar i m v =
      (cs : List Bool) × (q : List ℕ) × IsPosition p.top.type cs q
      × (loaded_marks p.top.loads (p.top.marks i) (load_count p.row_top.loads) cs q ≡ m)
      × (p.top.scalars i cs q ≡ v)

  -- how many variables both have
  abbrev pub top_count : Count
  top_count = more (load_count p.row_top.loads) (load_count p.top.loads)

  -- variables hold the row's scalars
  abbrev pub HoldsRow : (row : ℕ) → Vars → Type 0
  HoldsRow r vars =
      (m : Mark) (v : ℕ) → IsRowScalar r m v → HeldBelow (load_count p.row_top.loads) vars m v

  -- and the turn's
  abbrev pub HoldsTurn : (i : ℕ) → Vars → Type 0
  HoldsTurn i vars = (m : Mark) (v : ℕ) → IsTurnScalar i m v → HeldBelow top_count vars m v

  -- before each phase there are variables enough, that hold the row's scalars, and from the second
  -- on the turn's
  abbrev pub knows : (t q j : ℕ) → Vars → Type 0
  knows t q j vars =
      Fits p.variables vars × HoldsRow (turn_row l p t j) vars
      × (0 < q → HoldsTurn (turn_at l p t j) vars)

  -- the work of the phases, whatever code does it
  abbrev pub work_of : Work
  work_of = record {
    touches = p.touches;
    filled_in = p.filled_in;
    filler = p.filler;
    targets = targets;
    value = p.value;
    knows = knows;
  }

  -- the variables of the loops around the rows, and around the phases at turn i of the whole map
  abbrev pub row_variables : (row : ℕ) → List ℕ
  row_variables r = variables_in p.rows_form [] r

  abbrev pub variables_at : (i : ℕ) → List ℕ
  variables_at i =
      variables_in p.columns_form (row_variables (i / p.grid.columns)) (i % p.grid.columns)

  -- each item at its group's turns
  abbrev pub AtItsTurns : ((item i : ℕ) → Type 0) → Type 0
  AtItsTurns P =
      (item i : ℕ) → item < item_count l → i < places p.grid
      → IsGroupRow l item (i / p.grid.columns) → IsGroupColumn l item (i % p.grid.columns)
      → P item i

  -- the nest of phase q, as each item runs it at its group's turns
  abbrev pub IsPhaseNest : (q : ℕ) → Code → Code → Type 0
  IsPhaseNest q code rest =
      AtItsTurns
      (λ item i. IsNestCode num l item p.ins (p.phase q) (p.place i q) (FromLocalId Y) (ByLocalSize Y)
      (FromLocalId X) (ByLocalSize X) (variables_at i) code rest)

  -- code that is phase q; the turn's scalars are loaded before the first
  abbrev pub IsPhase : (q : ℕ) → Code → Code → Type 0
  IsPhase zero code rest =
      (mid : Code)
      × AtItsTurns
      (λ item i. IsLoaded l item p.ins (variables_at i) p.top.loads (p.top.marks i)
      (load_count p.row_top.loads) code mid)
      × IsPhaseNest 0 mid rest
  IsPhase (suc q) code rest = IsPhaseNest (suc q) code rest

  -- code that loads the scalars of a row of turns
  abbrev pub AreRowLoads : Code → Code → Type 0
  AreRowLoads code rest =
      (item r : ℕ) → item < item_count l → r < p.grid.rows → IsGroupRow l item r
      → IsLoaded l item p.ins (row_variables r) p.row_top.loads (p.row_top.marks r) no_variables
      code rest

-- this stands for a scalar that the j-th item holds in its t-th turn: of the row, of the turn, or
-- such
abbrev pub IsHeldScalar : {A : Type 0}
    → (num : A → ℕ) (l : Launch) (p : GridList A) (t j : ℕ) → (Held : Mark → ℕ → Type 0) → Mark
    → (v : ℕ) → Type 0
IsHeldScalar num l p t j Held m v =
    IsRowScalar num l p (turn_row l p t j) m v ⊎ IsTurnScalar num l p (turn_at l p t j) m v
    ⊎ Held m v

-- a scalar that the j-th item may read in phase q of its t-th turn, in this row of the phase: of a
-- known cell, or held in a variable, of the turn, of its row, or of the row of the phase
abbrev pub IsRead : {A : Type 0}
    → (num : A → ℕ) (k : Kernel) (l : Launch) (c : Cells) (p : GridList A) (t q j : ℕ)
    → (Held : Mark → ℕ → Type 0) → Mark → ℕ → Type 0
IsRead num k l c p t q j Held (Spot b i) v =
    (i < length_in k c b) × IsFilled (p.locals q) (p.phase q).privates b
    × IsKnown l c (work_of num l p) t q j (cell_at l j b i)
    × (p.value (group_of l j) t (cell_at l j b i) ≡ v)
IsRead num k l c p t q j Held (Register r) v = IsHeldScalar num l p t j Held (Register r) v
IsRead num k l c p t q j Held (Lane r i) v = IsHeldScalar num l p t j Held (Lane r i) v
IsRead num k l c p t q j Held Nowhere v = ⊥

-- what stands for a value of a type can be read there
abbrev pub AreRead : {A : Type 0}
    → (num : A → ℕ) (k : Kernel) (l : Launch) (c : Cells) (p : GridList A) (t q j : ℕ)
    → (Held : Mark → ℕ → Type 0) → Ty → Marks → Scalars → Type 0
AreRead num k l c p t q j Held ty e s =
    (cs : List Bool) (r : List ℕ) → IsPosition ty cs r
    → IsRead num k l c p t q j Held (e cs r) (s cs r)

-- nothing else is held
abbrev pub NothingHeld : Mark → ℕ → Type 0
NothingHeld m v = ⊥

-- this stands for a scalar of this row of the phase, which is v
abbrev pub IsHeldInRow : {A : Type 0} → Nest A → NestPlace → (row : ℕ) → Mark → (v : ℕ) → Type 0
IsHeldInRow n p r m v =
    (cs : List Bool) × (q : List ℕ) × IsPosition n.row_element cs q
    × (loaded_marks n.row_loads (λ cs q. p.row_marks cs (r ∷ q)) n.variables cs q ≡ m)
    × (p.row_scalars cs (r ∷ q) ≡ v)

-- a cell of an array that is still to be filled in phase q
abbrev pub IsFillable : {A : Type 0} → (k : Kernel) (c : Cells) (p : GridList A) (q : ℕ) → Mark
    → Type 0
IsFillable k c p q (Spot b i) =
    (i < length_in k c b)
    × IsOpen (p.locals q) ((p.phase q).privates + private_count (p.phase q).body) b
IsFillable k c p q _ = ⊥
