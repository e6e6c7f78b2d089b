-- What phases of two dimensions need so that every kernel that is printed for them keeps the
-- headline.
use Rattle.std.specs.Prelude.{◌≡◌, ℕ, ◌+◌, ◌*◌, ◌/◌, ◌<◌, ◌≤◌, ◌^◌, ◌⊎◌, Bool, true, List, All, Some, length, map, slice_index}
use Rattle.kernel_tree.specs.declared.tree.Dimension.TheVariants.{X, Y}
use Rattle.kernel_tree.specs.Formula.{Formula, bound_value}
use Rattle.kernel_tree.specs.Code.{FromGroupId, ByGroupCount, Code, Kernel}
use Rattle.kernel_tree.specs.Launch.{Launch, Cells, IsWhole, groups_across, groups_down, group_of, item_count}
use Rattle.kernel_tree.specs.Device.{Cell, length_in, row}
use Rattle.printed_form.specs.MapForms.{statement_of}
use Rattle.barrier_placement.specs.Conflicts as placed
use Rattle.barrier_placement.specs.Conflicts.{space_of}
use Rattle.barrier_placement.specs.Fencing.{Fencing}
use Rattle.barrier_placement.specs.Needed.{Needed}
use Rattle.barrier_placement.specs.Separates.{Separates}
use Rattle.lift_ir.specs.Types.{ArrayOf, IsPosition}
use Rattle.lift_ir.specs.Terms.{LoadsScalars, push, HasType}
use Rattle.lift_ir.specs.Scalars.{at_index}
use Rattle.printed_form.specs.Headline.{EveryRunKeeps}
use Rattle.printed_form.specs.Counts.{more, AtMost, load_count, variable_count}
use Rattle.printed_form.specs.Form.{Declares}
use Rattle.printed_form.specs.Whole.{IsGiven}
use Rattle.group_phases.specs.Cells.{input_cell, output_cell, IsOwnOutput}
use Rattle.group_phases.specs.GridPhases.{GridList, group_turns, turn_at, grid_scalars, targets, IsRowScalar, work_of, IsPhase, AreRowLoads, AreRead, NothingHeld, IsHeldInRow, IsFillable}
use Rattle.group_phases.specs.Grids.{places, rows_taken, columns_taken, local_walk}
use Rattle.group_phases.specs.Groups.{GroupOutputs, declared}
use Rattle.group_phases.specs.Outcome.{BarriersServeAll}
use Rattle.group_phases.specs.Phased.{ArePhases}
use Rattle.group_phases.specs.Phases.{cell_of}
use Rattle.group_phases.specs.Strides.{MakesTurnsBy}
use Rattle.group_phases.specs.Work.{IsOwnLocal}

-- a kernel that is a statement over rows of groups around the row's loads and a statement over the
-- groups of a row, around the phases
pub record IsGridKernel {A : Type 0} (num : A → ℕ) (k : Kernel) (l : Launch) (p : GridList A)
    (fence : ℕ → Fencing) : Type 0 where
  pub rows_bound : Formula
  pub columns_bound : Formula
  pub row_body : Code
  pub row_rest : Code
  pub body : Code
  pub code : k.code ≡ statement_of p.rows_form (FromGroupId Y) (ByGroupCount Y) rows_bound row_body
  pub rows_bound_is : bound_value l.sizes rows_bound ≡ Some p.grid.rows
  pub row_loads : AreRowLoads num l p row_body row_rest
  pub inner : row_rest
      ≡ statement_of p.columns_form (FromGroupId X) (ByGroupCount X) columns_bound body
  pub columns_bound_is : bound_value l.sizes columns_bound ≡ Some p.grid.columns
  pub phases : ArePhases fence (IsPhase num l p) 0 p.count body

module _ {A : Type 0} (p : GridList A) where
  -- a position of phase q's value, whose rows lie one after another
  abbrev pub IsResult : (q : ℕ) → List Bool → List ℕ → Type 0
  IsResult q cs r = IsPosition (ArrayOf (places (p.phase q).grid) (p.phase q).result) cs r

  -- the launch and the kernel have room for the phases
  pub record HasRoom (k : Kernel) (l : Launch) : Type 0 where
    pub whole : IsWhole l
    pub some : 0 < p.count
    pub rows : p.grid.rows + groups_down l ≤ 2 ^ 32
    pub columns : p.grid.columns + groups_across l ≤ 2 ^ 32
    pub rows_made : MakesTurnsBy p.rows_form p.grid.rows (groups_down l)
    pub columns_made : MakesTurnsBy p.columns_form p.grid.columns (groups_across l)
    pub once : p.once ≡ true → (g : ℕ) → group_turns l p g ≤ 1
    pub phase_rows : (q : ℕ) → q < p.count → (p.phase q).grid.rows + l.local.1 ≤ 2 ^ 32
    pub phase_columns : (q : ℕ) → q < p.count → (p.phase q).grid.columns + l.local.0 ≤ 2 ^ 32
    pub phase_rows_made : (q : ℕ) → q < p.count
        → MakesTurnsBy (p.phase q).rows_form (p.phase q).grid.rows l.local.1
    pub phase_columns_made : (q : ℕ) → q < p.count
        → MakesTurnsBy (p.phase q).columns_form (p.phase q).grid.columns l.local.0
    pub variables : AtMost p.variables (declared k)
    pub after_row : (q : ℕ) → q < p.count
        → AtMost (more (p.phase q).variables (load_count (p.phase q).row_loads)) (p.phase q).inner
    pub fits : (q : ℕ) → q < p.count
        → AtMost
        (more (more (p.phase q).inner (load_count (p.phase q).loads))
        (variable_count (p.phase q).body)) p.variables
    pub after_top : (q : ℕ) → q < p.count
        → AtMost (more (load_count p.row_top.loads) (load_count p.top.loads))
        (p.phase q).variables

  module _ (num : A → ℕ) (k : Kernel) (l : Launch) (c : Cells) where
    -- each phase is typed, loads scalars alone, and its private arrays are declared
    pub record AreTyped : Type 0 where
      pub row_top_loads : LoadsScalars p.row_top.loads p.row_top.type
      pub top_loads : LoadsScalars p.top.loads p.top.type
      pub row_loads : (q : ℕ) → q < p.count
          → LoadsScalars (p.phase q).row_loads (p.phase q).row_element
      pub loads : (q : ℕ) → q < p.count → LoadsScalars (p.phase q).loads (p.phase q).element
      pub typed : (q : ℕ) → q < p.count
          → HasType num p.src (push (p.phase q).element (p.phase q).types) (p.phase q).body
          (p.phase q).result
      pub declares : (q : ℕ) → q < p.count
          → Declares (length_in k c) (p.phase q).privates (p.phase q).body

    -- what a phase reads is known by then, and holds its scalars; of its argument
    -- an item reads its own places alone. What a turn binds is an input's, or its row's
    pub record ReadsKnown : Type 0 where
      pub given : (g t a i : ℕ) → p.value g t (input_cell a i) ≡ slice_index (row c.ins a) i
      pub row_top : (r : ℕ) → r < p.grid.rows → (cs : List Bool) (q : List ℕ)
          → IsPosition p.row_top.type cs q → IsGiven c (p.row_top.marks r cs q) (p.row_top.scalars r cs q)
      pub top : (i : ℕ) → i < places p.grid → (cs : List Bool) (r : List ℕ)
          → IsPosition p.top.type cs r
          → IsGiven c (p.top.marks i cs r) (p.top.scalars i cs r)
          ⊎ IsRowScalar num l p (i / p.grid.columns) (p.top.marks i cs r) (p.top.scalars i cs r)
      pub inputs : (t q j v : ℕ) → t < group_turns l p (group_of l j) → q < p.count → j < item_count l
          → AreRead num k l c p t q j NothingHeld (p.src v) (p.ins v) (p.sources v)
      pub rows : (t q j u : ℕ) → t < group_turns l p (group_of l j) → q < p.count → j < item_count l
          → u < rows_taken (p.phase q).grid (local_walk l j)
          → AreRead num k l c p t q j NothingHeld (p.phase q).row_element
          (at_index ((local_walk l j).row + u * l.local.1) (p.place (turn_at l p t j) q).row_marks)
          (at_index ((local_walk l j).row + u * l.local.1) (p.place (turn_at l p t j) q).row_scalars)
      pub envs : (t q j u v : ℕ) → t < group_turns l p (group_of l j) → q < p.count → j < item_count l
          → u < rows_taken (p.phase q).grid (local_walk l j)
          → AreRead num k l c p t q j
          (IsHeldInRow (p.phase q) (p.place (turn_at l p t j) q) ((local_walk l j).row + u * l.local.1))
          ((p.phase q).types v)
          ((p.place (turn_at l p t j) q).env ((local_walk l j).row + u * l.local.1) v)
          ((p.place (turn_at l p t j) q).sems ((local_walk l j).row + u * l.local.1) v)
      pub elements : (t q j u v : ℕ) → t < group_turns l p (group_of l j) → q < p.count
          → j < item_count l → u < rows_taken (p.phase q).grid (local_walk l j)
          → v < columns_taken (p.phase q).grid (local_walk l j)
          → AreRead num k l c p t q j
          (IsHeldInRow (p.phase q) (p.place (turn_at l p t j) q) ((local_walk l j).row + u * l.local.1))
          (p.phase q).element
          (at_index ((local_walk l j).column + v * l.local.0)
          ((p.place (turn_at l p t j) q).marks ((local_walk l j).row + u * l.local.1)))
          (at_index ((local_walk l j).column + v * l.local.0)
          ((p.place (turn_at l p t j) q).scalars ((local_walk l j).row + u * l.local.1)))

    -- each scalar of a phase goes to a cell of its own, of an array that is still to be
    -- filled, and is the cell's value
    pub record FillsCells : Type 0 where
      pub fillable : (i q : ℕ) → i < places p.grid → q < p.count → (cs : List Bool) (r : List ℕ)
          → IsResult q cs r → IsFillable k c p q ((p.place i q).to cs r)
      pub choices : (i q j : ℕ) → i < places p.grid → q < p.count → (cs ds : List Bool)
          (r s : List ℕ)
          → IsResult q cs r → IsResult q ds s
          → cell_of l j ((p.place i q).to cs r) ≡ cell_of l j ((p.place i q).to ds s) → cs ≡ ds
      pub places_differ : (i q j : ℕ) → i < places p.grid → q < p.count → (cs ds : List Bool)
          (r s : List ℕ)
          → IsResult q cs r → IsResult q ds s
          → cell_of l j ((p.place i q).to cs r) ≡ cell_of l j ((p.place i q).to ds s) → r ≡ s
      pub valued : (t q j : ℕ) → t < group_turns l p (group_of l j) → q < p.count → j < item_count l
          → (cs : List Bool) (r : List ℕ) → IsResult q cs r
          → p.value (group_of l j) t (cell_of l j ((p.place (turn_at l p t j) q).to cs r))
          ≡ grid_scalars num l p (turn_at l p t j) q cs r

    -- what an item writes is its own, and output cells are written in one phase of one turn
    pub record WritesOwn (owner : (array index : ℕ) → ℕ) : Type 0 where
      pub due : (t q j : ℕ) (b : Cell) → q < p.count → j < item_count l → targets num l p t q j b
          → IsOwnOutput owner j b ⊎ IsOwnLocal l (work_of num l p) q j b
      pub differ : (a i t q j u r m : ℕ) → q < p.count → r < p.count → j < item_count l
          → m < item_count l → targets num l p t q j (output_cell a i)
          → targets num l p u r m (output_cell a i) → (t ≡ u) × (q ≡ r)

    -- the phases are a map over groups that leaves what is wanted, each cell by its owner
    pub record IsGridPhased (owner : (array index : ℕ) → ℕ) (wanted : List (List ℕ)) : Type 0 where
      pub room : HasRoom k l
      pub types : AreTyped
      pub reads : ReadsKnown
      pub fills : FillsCells
      pub writes : WritesOwn owner
      pub shape : map length wanted ≡ map length c.outs
      pub outputs : GroupOutputs l owner wanted p.count (group_turns l p) (work_of num l p)

-- every run of every kernel that is printed for such phases keeps the headline, whatever barriers
-- separate the conflicting ones
abbrev pub GridPhasesKeep : Type 0 → Type 0
GridPhasesKeep A =
    (num : A → ℕ) (k : Kernel) (l : Launch) (c : Cells) (owner : (array index : ℕ) → ℕ)
    (wanted : List (List ℕ)) (p : GridList A) (fence : ℕ → Fencing)
    → IsGridPhased p num k l c owner wanted
    → Separates p.touches placed.Local p.once p.count fence → IsGridKernel num k l p fence
    → EveryRunKeeps k l c owner wanted

-- and its barriers serve
abbrev pub GridPhasesServe : Type 0 → Type 0
GridPhasesServe A =
    (num : A → ℕ) (k : Kernel) (l : Launch) (c : Cells) (owner : (array index : ℕ) → ℕ)
    (wanted : List (List ℕ)) (p : GridList A) (fence : ℕ → Fencing)
    → IsGridPhased p num k l c owner wanted
    → Separates p.touches placed.Local p.once p.count fence → IsGridKernel num k l p fence
    → BarriersServeAll k l c p.filler

-- so it is with the needed barriers, where all uses are of local arrays
abbrev pub NeededGridBarriersKeep : Type 0 → Type 0
NeededGridBarriersKeep A =
    (num : A → ℕ) (k : Kernel) (l : Launch) (c : Cells) (owner : (array index : ℕ) → ℕ)
    (wanted : List (List ℕ)) (p : GridList A) (fence : ℕ → Fencing)
    → IsGridPhased p num k l c owner wanted
    → All (λ x. space_of x.local ≡ placed.Local) p.touches → Needed p.touches p.once p.count fence
    → IsGridKernel num k l p fence → EveryRunKeeps k l c owner wanted
