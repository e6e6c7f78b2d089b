-- From the stages of a body to the phases of a map over groups: what each turn binds, where values
-- go, and what each cell is to hold.
use Rattle.std.specs.Prelude.{ℕ, suc, ◌+◌, ◌-◌, ◌*◌, ◌%◌, Bool, true, false, List, [], ◌∷◌, length, if◌then◌else◌, nat_lt, slice_index}
use Rattle.kernel_tree.specs.Code.{Array, Input, Output, Local as LocalArray, Private}
use Rattle.kernel_tree.specs.Launch.{Launch, Cells, groups_across}
use Rattle.kernel_tree.specs.Device.{Cell, row}
use Rattle.lift_ir.specs.Types.{Ty, Scalar, PairOf, ArrayOf, width, unflat}
use Rattle.lift_ir.specs.Scalars.{Scalars, at_index}
use Rattle.printed_form.specs.Counts.{Count}
use Rattle.printed_form.specs.MapForms.{MapForms}
use Rattle.printed_form.specs.Marks.{Marks, laid_in}
use Rattle.group_phases.specs.Phases.{Place, TurnElement, PhaseList}
use Rattle.group_form.specs.Uses.{Destination, Locals, Outputs, numbered}
use Rattle.group_form.specs.Stages.{Stage, stage_at, uses_of, value_in}

-- a map over groups, an `if` or a loop of so many turns: the forms of the maps in it, its bound
-- element, where its value goes, the type of a turn's value, and its stages
pub record GroupBody (A : Type 0) : Type 0 where
  pub once : Bool
  pub turns : ℕ
  pub variables : Count
  pub forms : MapForms A
  pub ins : ℕ → Marks
  pub src : ℕ → Ty
  pub sources : ℕ → Scalars
  pub top : TurnElement
  pub out : Marks
  pub result : Ty
  pub stages : List (Stage A)

-- the cells of a destination, in a turn of the map over groups
abbrev pub destination_marks : (out : Marks) → (turn : ℕ) → Destination → Marks
destination_marks out i (Locals first ty) = laid_in LocalArray first ty
destination_marks out i Outputs = at_index i out

-- where the value of a phase goes in a turn, through the layouts around it
abbrev pub goes_to : {A : Type 0} → (out : Marks) → (turn : ℕ) → Stage A → Marks
goes_to out i s = λ cs p. destination_marks out i s.destination cs (s.outer p)

-- what stands for a phase's values in a turn, and where they go
abbrev pub place_of : {A : Type 0} → (out : Marks) → (turn : ℕ) → Stage A → Place
place_of out i s = record {
  env = s.env i;
  sems = s.sems i;
  marks = s.marks i;
  scalars = s.scalars i;
  to = goes_to out i s;
}

-- the local arrays of a destination end before this
abbrev pub locals_end : Destination → ℕ
locals_end (Locals first ty) = first + width ty
locals_end Outputs = 0

-- the number of the phase that fills a local array
abbrev pub home_in : {A : Type 0} → List (Stage A) → ℕ → ℕ
home_in [] a = 0
home_in (s ∷ ss) a = if nat_lt a (locals_end s.destination) then 0 else suc (home_in ss a)

-- the pair choices of the component with this number
abbrev pub choices_at : Ty → ℕ → List Bool
choices_at (PairOf a b) c =
    if nat_lt c (width a) then false ∷ choices_at a c else (true ∷ choices_at b (c - width a))
choices_at (ArrayOf n t) c = choices_at t c
choices_at Scalar c = []

-- the first index of a position, or 0
abbrev pub first_index : List ℕ → ℕ
first_index [] = 0
first_index (i ∷ p) = i

-- the component of a phase's value that a local array holds
abbrev pub held_choices : Destination → (array : ℕ) → List Bool
held_choices (Locals first ty) a = choices_at ty (a - first)
held_choices Outputs a = []

-- and the position in it that a cell holds
abbrev pub held_position : {A : Type 0} → Stage A → Destination → (index : ℕ) → List ℕ
held_position s (Locals first ty) n = s.path (unflat ty n)
held_position s Outputs n = []

module _ {A : Type 0} (num : A → ℕ) (l : Launch) (c : Cells) (wanted : List (List ℕ))
    (b : GroupBody A) where
  -- the phase that fills a local array
  abbrev pub filling : (array : ℕ) → Stage A
  filling a = stage_at b.stages (home_in b.stages a)

  -- of the component that it holds
  abbrev pub choices_in : (array : ℕ) → List Bool
  choices_in a = held_choices (filling a).destination a

  -- of what a cell of it holds
  abbrev pub position_in : (array index : ℕ) → List ℕ
  position_in a n = held_position (filling a) (filling a).destination n

  -- what a group's turn is to leave in the arrays
  abbrev pub content : (group turn : ℕ) → Array → ℕ → ℕ
  content g t (Input a) n = slice_index (row c.ins a) n
  content g t (Output a) n = slice_index (row wanted a) n
  content g t (LocalArray a) n =
      value_in num b.sources (g + t * groups_across l) (filling a) (choices_in a) (position_in a n)
  content g t (Private a) n = 0

  -- the row of its phase's value that a cell lies in; 0 in arrays that aren't local
  abbrev pub row_in : Array → ℕ → ℕ
  row_in (LocalArray a) n = first_index (position_in a n)
  row_in _ n = 0

  -- a local cell is filled by the item that computes its row
  abbrev pub filler : Cell → ℕ
  filler x = x.home * l.local.0 + row_in x.array x.index % l.local.0

  -- the phases, with their cells and contents
  abbrev pub phase_list : PhaseList A
  phase_list = record {
    once = b.once;
    turns = b.turns;
    count = length b.stages;
    variables = b.variables;
    ins = b.ins;
    src = b.src;
    sources = b.sources;
    top = b.top;
    phase = λ q. (stage_at b.stages q).phase;
    place = λ i q. place_of b.out i (stage_at b.stages q);
    touches = numbered 0 (uses_of b.stages);
    filled_in = home_in b.stages;
    filler = filler;
    value = λ g t x. content g t x.array x.index;
  }
