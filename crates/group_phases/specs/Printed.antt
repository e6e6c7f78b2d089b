-- What phases need so that every kernel that is printed for them keeps the headline.
use Rattle.std.specs.Prelude.{◌≡◌, ℕ, ◌+◌, ◌%◌, ◌<◌, ◌≤◌, ◌^◌, ◌⊎◌, Bool, true, List, All, length, map, slice_index}
use Rattle.kernel_tree.specs.Code.{Kernel}
use Rattle.kernel_tree.specs.Launch.{Launch, Cells, IsWhole, IsFlat, group_of, groups_across, item_count}
use Rattle.kernel_tree.specs.Device.{Cell, length_in, row}
use Rattle.kernel_tree.specs.Strides.{turns_of}
use Rattle.barrier_placement.specs.Conflicts as placed
use Rattle.barrier_placement.specs.Conflicts.{space_of}
use Rattle.barrier_placement.specs.Fencing.{Fencing}
use Rattle.barrier_placement.specs.Needed.{Needed}
use Rattle.barrier_placement.specs.Separates.{Separates}
use Rattle.lift_ir.specs.Types.{ArrayOf, IsPosition}
use Rattle.lift_ir.specs.Terms.{LoadsScalars, push, HasType}
use Rattle.lift_ir.specs.Scalars.{at_index}
use Rattle.printed_form.specs.Headline.{EveryRunKeeps}
use Rattle.printed_form.specs.Counts.{more, AtMost, load_count, variable_count}
use Rattle.printed_form.specs.Form.{Declares}
use Rattle.printed_form.specs.MapForms.{MakesTurns}
use Rattle.printed_form.specs.Whole.{IsGiven}
use Rattle.group_phases.specs.Cells.{input_cell, output_cell, IsOwnOutput}
use Rattle.group_phases.specs.Work.{IsOwnLocal}
use Rattle.group_phases.specs.Groups.{GroupOutputs, declared, loop_turns}
use Rattle.group_phases.specs.Phased.{IsGroupKernel}
use Rattle.group_phases.specs.Outcome.{BarriersServeAll}
use Rattle.group_phases.specs.Phases.{PhaseList, turn_of, row_of, cell_of, phase_scalars, targets, work_of, IsPhase, AreRead, IsFillable}

module _ {A : Type 0} (p : PhaseList A) where
  -- a position of phase q's value
  abbrev pub IsResult : (q : ℕ) → List Bool → List ℕ → Type 0
  IsResult q cs r = IsPosition (ArrayOf (p.phase q).len (p.phase q).result) cs r

  -- the launch and the kernel have room for the phases
  pub record HasRoom (k : Kernel) (l : Launch) : Type 0 where
    pub whole : IsWhole l
    pub flat : IsFlat l
    pub some : 0 < p.count
    pub turns : p.turns + groups_across l ≤ 2 ^ 32
    pub once : p.once ≡ true → p.turns ≤ 1
    pub rows : (q : ℕ) → q < p.count → (p.phase q).len + l.local.0 ≤ 2 ^ 32
    pub forms : (q : ℕ) → q < p.count → MakesTurns (p.phase q).form (p.phase q).len l
    pub variables : AtMost p.variables (declared k)
    pub fits : (q : ℕ) → q < p.count
        → AtMost
        (more (more (p.phase q).variables (load_count (p.phase q).loads))
        (variable_count (p.phase q).body)) p.variables
    pub after_top : (q : ℕ) → q < p.count
        → AtMost (load_count p.top.loads) (p.phase q).variables

  module _ (num : A → ℕ) (k : Kernel) (l : Launch) (c : Cells) where
    -- each phase is typed, loads scalars alone, and its private arrays are declared
    pub record AreTyped : Type 0 where
      pub top_loads : LoadsScalars p.top.loads p.top.type
      pub loads : (q : ℕ) → q < p.count → LoadsScalars (p.phase q).loads (p.phase q).element
      pub typed : (q : ℕ) → q < p.count
          → HasType num p.src (push (p.phase q).element (p.phase q).types) (p.phase q).body
          (p.phase q).result
      pub declares : (q : ℕ) → q < p.count
          → Declares (length_in k c) (p.phase q).privates (p.phase q).body

    -- what a phase reads is known by then, and holds its scalars; of its argument
    -- an item reads its own rows alone
    pub record ReadsKnown : Type 0 where
      pub given : (g t a i : ℕ) → p.value g t (input_cell a i) ≡ slice_index (row c.ins a) i
      pub top : (i : ℕ) → i < p.turns → (cs : List Bool) (r : List ℕ) → IsPosition p.top.type cs r
          → IsGiven c (p.top.marks i cs r) (p.top.scalars i cs r)
      pub inputs : (t q j v : ℕ) → turn_of l t j < p.turns → q < p.count → j < item_count l
          → AreRead num k l c p t q j (p.src v) (p.ins v) (p.sources v)
      pub envs : (t q j v : ℕ) → turn_of l t j < p.turns → q < p.count → j < item_count l
          → AreRead num k l c p t q j ((p.phase q).types v) ((p.place (turn_of l t j) q).env v)
          ((p.place (turn_of l t j) q).sems v)
      pub elements : (t q j u : ℕ) → turn_of l t j < p.turns → q < p.count → j < item_count l
          → u < turns_of (p.phase q).len l.local.0 (j % l.local.0)
          → AreRead num k l c p t q j (p.phase q).element
          (at_index (row_of l j u) (p.place (turn_of l t j) q).marks)
          (at_index (row_of l j u) (p.place (turn_of l t j) q).scalars)

    -- each scalar of a phase goes to a cell of its own, of an array that is still to be
    -- filled, and is the cell's value
    pub record FillsCells : Type 0 where
      pub fillable : (i q : ℕ) → i < p.turns → q < p.count → (cs : List Bool) (r : List ℕ)
          → IsResult q cs r → IsFillable k c p q ((p.place i q).to cs r)
      pub choices : (i q j : ℕ) → i < p.turns → q < p.count → (cs ds : List Bool) (r s : List ℕ)
          → IsResult q cs r → IsResult q ds s
          → cell_of l j ((p.place i q).to cs r) ≡ cell_of l j ((p.place i q).to ds s) → cs ≡ ds
      pub places : (i q j : ℕ) → i < p.turns → q < p.count → (cs ds : List Bool) (r s : List ℕ)
          → IsResult q cs r → IsResult q ds s
          → cell_of l j ((p.place i q).to cs r) ≡ cell_of l j ((p.place i q).to ds s) → r ≡ s
      pub valued : (t q j : ℕ) → turn_of l t j < p.turns → q < p.count → j < item_count l
          → (cs : List Bool) (r : List ℕ) → IsResult q cs r
          → p.value (group_of l j) t (cell_of l j ((p.place (turn_of l t j) q).to cs r))
          ≡ phase_scalars num l p (turn_of l t j) q cs r

    -- what an item writes is its own, and output cells are written in one phase of one turn
    pub record WritesOwn (owner : (array index : ℕ) → ℕ) : Type 0 where
      pub due : (t q j : ℕ) (b : Cell) → q < p.count → j < item_count l → targets num l p t q j b
          → IsOwnOutput owner j b ⊎ IsOwnLocal l (work_of num l p) q j b
      pub differ : (a i t q j u r m : ℕ) → q < p.count → r < p.count → j < item_count l
          → m < item_count l → targets num l p t q j (output_cell a i)
          → targets num l p u r m (output_cell a i) → (t ≡ u) × (q ≡ r)

    -- the phases are a map over groups that leaves what is wanted, each cell by its owner
    pub record IsPhased (owner : (array index : ℕ) → ℕ) (wanted : List (List ℕ)) : Type 0 where
      pub room : HasRoom k l
      pub types : AreTyped
      pub reads : ReadsKnown
      pub fills : FillsCells
      pub writes : WritesOwn owner
      pub shape : map length wanted ≡ map length c.outs
      pub outputs : GroupOutputs l owner wanted p.count (loop_turns l p.turns) (work_of num l p)

-- every run of every kernel that is printed for such phases keeps the headline, whatever barriers
-- separate the conflicting ones
abbrev pub PhasesKeep : Type 0 → Type 0
PhasesKeep A =
    (num : A → ℕ) (k : Kernel) (l : Launch) (c : Cells) (owner : (array index : ℕ) → ℕ)
    (wanted : List (List ℕ)) (p : PhaseList A) (fence : ℕ → Fencing)
    → IsPhased p num k l c owner wanted → Separates p.touches placed.Local p.once p.count fence
    → IsGroupKernel k l p.once p.turns p.count fence (IsPhase num l p)
    → EveryRunKeeps k l c owner wanted

-- and its barriers serve
abbrev pub PhasesServe : Type 0 → Type 0
PhasesServe A =
    (num : A → ℕ) (k : Kernel) (l : Launch) (c : Cells) (owner : (array index : ℕ) → ℕ)
    (wanted : List (List ℕ)) (p : PhaseList A) (fence : ℕ → Fencing)
    → IsPhased p num k l c owner wanted → Separates p.touches placed.Local p.once p.count fence
    → IsGroupKernel k l p.once p.turns p.count fence (IsPhase num l p)
    → BarriersServeAll k l c p.filler

-- so it is with the needed barriers, where all uses are of local arrays
abbrev pub NeededBarriersKeep : Type 0 → Type 0
NeededBarriersKeep A =
    (num : A → ℕ) (k : Kernel) (l : Launch) (c : Cells) (owner : (array index : ℕ) → ℕ)
    (wanted : List (List ℕ)) (p : PhaseList A) (fence : ℕ → Fencing)
    → IsPhased p num k l c owner wanted → All (λ x. space_of x.local ≡ placed.Local) p.touches
    → Needed p.touches p.once p.count fence
    → IsGroupKernel k l p.once p.turns p.count fence (IsPhase num l p)
    → EveryRunKeeps k l c owner wanted
