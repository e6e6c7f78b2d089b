-- The phases of a map over work-groups, each a map over the items of a group, with what stands for
-- its values at every turn.
use Rattle.std.specs.Prelude.{◌≡◌, ℕ, zero, suc, ◌+◌, ◌*◌, ◌%◌, ◌<◌, Bool, List, [], ◌∷◌, None}
use Rattle.lift_tree.specs.declared.term.Level.TheVariants.{Groups, Items}
use Rattle.lift_tree.specs.declared.term.Dimension.TheVariants.{X}
use Rattle.kernel_tree.specs.Formula.{Vars, word, vector}
use Rattle.kernel_tree.specs.Code.{Code, Kernel}
use Rattle.kernel_tree.specs.Launch.{Launch, Cells, item_count, group_of, groups_across}
use Rattle.kernel_tree.specs.Device.{Cell, cell_at, length_in}
use Rattle.kernel_tree.specs.Strides.{turns_of}
use Rattle.barrier_placement.specs.declared.touches.Touch.{Touch}
use Rattle.lift_ir.specs.Types.{Ty, IsPosition}
use Rattle.lift_ir.specs.Terms.{LoadSet, Over, Term, push}
use Rattle.lift_ir.specs.Scalars.{Scalars, at_index, mapped, scalars_of}
use Rattle.printed_form.specs.Marks.{Mark, Nowhere, Register, Lane, Spot, Marks, loaded_marks}
use Rattle.printed_form.specs.Counts.{Count, more, no_variables, load_count, private_count}
use Rattle.printed_form.specs.Form.{IsTurnOf, IsLoaded, IsWritten}
use Rattle.printed_form.specs.MapForms.{MapForm, form_over_groups, variables_in, AreTurns}
use Rattle.printed_form.specs.Runs.{Fits, lane, IsFilled, IsOpen, mark_cell}
use Rattle.group_phases.specs.Work.{Work, IsKnown}

-- a phase: a map over the items of a group in a form, whatever the turn, at a launch
pub record Phase (A : Type 0) : Type 0 where
  pub form : MapForm
  pub len : ℕ
  pub loads : LoadSet
  pub body : Term A
  pub element : Ty
  pub result : Ty
  pub types : ℕ → Ty  -- of the binders that the body names
  pub variables : Count  -- private variables in use before it
  pub privates : ℕ  -- private arrays in use before it
  pub locals : ℕ  -- local arrays filled before it

-- and at one turn: what stands for its binders and its argument, their
-- scalars, and where its value goes
pub record Place : Type 0 where
  pub env : ℕ → Marks
  pub sems : ℕ → Scalars
  pub marks : Marks
  pub scalars : Scalars
  pub to : Marks

-- the element that the map over groups binds: which of its scalars are loaded, its type, what
-- stands for it and its scalars at each turn
pub record TurnElement : Type 0 where
  pub loads : LoadSet
  pub type : Ty
  pub marks : (turn : ℕ) → Marks
  pub scalars : (turn : ℕ) → Scalars

-- a map over groups, of so many turns and phases; an `if` where `once`, else a loop; with the
-- phases' uses of local arrays, and what each cell is to hold in each turn of a group
pub record PhaseList (A : Type 0) : Type 0 where
  pub once : Bool
  pub turns : ℕ
  pub count : ℕ
  pub variables : Count
  pub ins : ℕ → Marks
  pub src : ℕ → Ty
  pub sources : ℕ → Scalars
  pub top : TurnElement
  pub phase : (phase : ℕ) → Phase A
  pub place : (turn phase : ℕ) → Place
  pub touches : List Touch
  pub filled_in : (array : ℕ) → ℕ
  pub filler : Cell → ℕ
  pub value : (group turn : ℕ) → Cell → ℕ

-- a mark that is a variable below these, or a lane of one, holds v
abbrev pub HeldBelow : Count → Vars → Mark → (v : ℕ) → Type 0
HeldBelow n vars (Register r) v = (r < n.words) × (word vars r ≡ v)
HeldBelow n vars (Lane r j) v = (r < n.fours) × (lane (vector vars r) j ≡ v)
HeldBelow n vars (Spot b i) v = Unit {0}
HeldBelow n vars Nowhere v = Unit {0}

-- the turn of the whole map that the j-th item's group takes as its t-th
abbrev pub turn_of : Launch → (t j : ℕ) → ℕ
turn_of l t j = group_of l j + t * groups_across l

-- the row of a phase that the j-th item fills as its u-th
abbrev pub row_of : Launch → (j u : ℕ) → ℕ
row_of l j u = j % l.local.0 + u * l.local.0

-- the cell of a mark, for the j-th item
abbrev pub cell_of : Launch → (j : ℕ) → Mark → Cell
cell_of l j m =
    mark_cell
    (record {
      device = record { launch = l; lengths = λ a. 0 };
      item = j;
      owners = λ c. None;
      locals = 0;
    }) m

module _ {A : Type 0} (num : A → ℕ) (l : Launch) (p : PhaseList A) where
  -- the scalars of phase q at turn i of the whole map
  abbrev pub phase_scalars : (i q : ℕ) → Scalars
  phase_scalars i q =
      mapped (λ x. scalars_of num p.sources (push x (p.place i q).sems) (p.phase q).body)
      (p.place i q).scalars

  -- the j-th item's rows of phase q in its t-th turn
  abbrev pub targets : (t q j : ℕ) → Cell → Type 0
  targets t q j b =
      (turn_of l t j < p.turns) × (u : ℕ) × (u < turns_of (p.phase q).len l.local.0 (j % l.local.0))
      × (cs : List Bool) × (r : List ℕ) × IsPosition (p.phase q).result cs r
      × (b ≡ cell_of l j ((p.place (turn_of l t j) q).to cs (row_of l j u ∷ r)))

  -- this stands for one of the bound element's scalars at turn i, which is v
  abbrev pub IsBoundScalar : (i : ℕ) → Mark → (v : ℕ) → Type 0
  IsBoundScalar i m v =
      (cs : List Bool) × (r : List ℕ) × IsPosition p.top.type cs r
      × (loaded_marks p.top.loads (p.top.marks i) no_variables cs r ≡ m)
      × (p.top.scalars i cs r ≡ v)

  -- variables hold the bound element's scalars of turn i
  abbrev pub HoldsTurn : (i : ℕ) → Vars → Type 0
  HoldsTurn i vars =
      (m : Mark) (v : ℕ) → IsBoundScalar i m v → HeldBelow (load_count p.top.loads) vars m v

  -- before each phase there are variables enough, and from the second
  -- on they hold the turn's scalars
  abbrev pub knows : (t q j : ℕ) → Vars → Type 0
  knows t zero j vars = Fits p.variables vars
  knows t (suc q) j vars = Fits p.variables vars × HoldsTurn (turn_of l t j) vars

  -- the work of the phases, whatever code does it
  abbrev pub work_of : Work
  work_of =
      record {
        touches = p.touches;
        filled_in = p.filled_in;
        filler = p.filler;
        targets = targets;
        value = p.value;
        knows = knows;
      }

  -- the variables of the loops around the phases at turn i of the whole map
  abbrev pub variables_at : (i : ℕ) → List ℕ
  variables_at i = variables_in (form_over_groups p.once) [] i

  -- the map of phase q in its form, as each item runs it at its group's turns
  abbrev pub IsPhaseMap : (q : ℕ) → Code → Code → Type 0
  IsPhaseMap q code rest =
      (item i : ℕ) → item < item_count l → i < p.turns → IsTurnOf l item (Over Groups X) i
      → AreTurns l item p.ins (p.phase q).form (Over Items X) (variables_at i) (p.phase q).len
      (λ ts j body last. (inner : Code)
      × IsLoaded l item p.ins ts (p.phase q).loads (at_index j (p.place i q).marks)
      (p.phase q).variables body inner
      × IsWritten l item p.ins num ts
      (push
      (loaded_marks (p.phase q).loads (at_index j (p.place i q).marks)
      (p.phase q).variables)
      (p.place i q).env)
      (p.phase q).privates (more (p.phase q).variables (load_count (p.phase q).loads))
      (p.phase q).body (at_index j (p.place i q).to) inner last)
      code rest

  -- code that is phase q; the turn's scalars are loaded before the first
  abbrev pub IsPhase : (q : ℕ) → Code → Code → Type 0
  IsPhase zero code rest =
      (mid : Code)
      ×
      ((item i : ℕ) → item < item_count l → i < p.turns → IsTurnOf l item (Over Groups X) i
      → IsLoaded l item p.ins (variables_at i) p.top.loads (p.top.marks i) no_variables code mid)
      × IsPhaseMap 0 mid rest
  IsPhase (suc q) code rest = IsPhaseMap (suc q) code rest

-- a scalar that the j-th item may read in phase q of its t-th turn
abbrev pub IsRead : {A : Type 0}
    → (num : A → ℕ) (k : Kernel) (l : Launch) (c : Cells) (p : PhaseList A) (t q j : ℕ) → Mark → ℕ
    → Type 0
IsRead num k l c p t q j (Spot b i) v =
    (i < length_in k c b) × IsFilled (p.phase q).locals (p.phase q).privates b
    × IsKnown l c (work_of num l p) t q j (cell_at l j b i)
    × (p.value (group_of l j) t (cell_at l j b i) ≡ v)
IsRead num k l c p t q j (Register r) v = IsBoundScalar num l p (turn_of l t j) (Register r) v
IsRead num k l c p t q j (Lane r i) v = IsBoundScalar num l p (turn_of l t j) (Lane r i) v
IsRead num k l c p t q j Nowhere v = ⊥

-- what stands for a value of a type can be read there
abbrev pub AreRead : {A : Type 0}
    → (num : A → ℕ) (k : Kernel) (l : Launch) (c : Cells) (p : PhaseList A) (t q j : ℕ) → Ty → Marks
    → Scalars → Type 0
AreRead num k l c p t q j ty e s =
    (cs : List Bool) (r : List ℕ) → IsPosition ty cs r → IsRead num k l c p t q j (e cs r) (s cs r)

-- a cell of an array that is still to be filled in phase q
abbrev pub IsFillable : {A : Type 0} → (k : Kernel) (c : Cells) (p : PhaseList A) (q : ℕ) → Mark
    → Type 0
IsFillable k c p q (Spot b i) =
    (i < length_in k c b)
    × IsOpen (p.phase q).locals ((p.phase q).privates + private_count (p.phase q).body) b
IsFillable k c p q _ = ⊥
