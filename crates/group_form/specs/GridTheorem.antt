-- What holds of every kernel that is printed for a map over work-groups in two dimensions.
use Rattle.std.specs.Prelude.{◌≡◌, ℕ, ◌<◌, ◌≤◌, ◌^◌, ◌&&◌, Bool, true, false, List, [], All, length, map}
use Rattle.kernel_tree.specs.Code.{Code, Kernel}
use Rattle.kernel_tree.specs.Device.{Cell}
use Rattle.kernel_tree.specs.Launch.{Launch, Cells, IsWhole, item_count}
use Rattle.lift_tree.specs.Tree.{Tree}
use Rattle.lift_tree.specs.Values.{nth}
use Rattle.lift_tree.specs.Meaning.{World, meaning}
use Rattle.barrier_placement.specs.Conflicts as placed
use Rattle.barrier_placement.specs.Conflicts.{space_of}
use Rattle.barrier_placement.specs.Fencing.{Fencing, Open}
use Rattle.barrier_placement.specs.Needed.{Needed}
use Rattle.barrier_placement.specs.Separates.{Separates}
use Rattle.lift_ir.specs.Types.{Ty, unflat}
use Rattle.lift_ir.specs.Terms.{LocalMemory, Term, Reshape, LetArray, Map}
use Rattle.lift_ir.specs.Scalars.{Scalars, scalars_of, no_scalars, HasScalars, lists_of, AreLists}
use Rattle.lift_ir.specs.Sources.{Lowers}
use Rattle.lift_ir.specs.Owner.{owner}
use Rattle.printed_form.specs.Counts.{copy_lengths}
use Rattle.printed_form.specs.Alike.{Alike}
use Rattle.printed_form.specs.Headline.{EveryRunKeeps}
use Rattle.printed_form.specs.MapForms.{Alone}
use Rattle.printed_form.specs.Marks.{Marks}
use Rattle.printed_form.specs.Whole.{no_marks, output_marks, IsMadeFor}
use Rattle.group_phases.specs.Outcome.{BarriersServeAll}
use Rattle.group_phases.specs.Strides.{MakesTurnsBy}
use Rattle.group_form.specs.GridForm.{IsOverGrid}
use Rattle.group_form.specs.GridTerms.{GridForms, StandsOverGrid, grid_touches}
use Rattle.group_form.specs.Uses.{phases_in}

-- at a launch each form makes just the turns of its map
pub record MakeGridTurns {A : Type 0} (forms : GridForms A) (num : A → ℕ) (l : Launch) : Type 0 where
  pub rows : (n : A) → num n < 2 ^ 31 → MakesTurnsBy (forms.rows.local n) (num n) l.local.1
  pub columns : (n : A) → num n < 2 ^ 31 → MakesTurnsBy (forms.columns.local n) (num n) l.local.0
  pub one_row : (n : A) → forms.rows.once n ≡ true → num n ≡ 1
  pub one_column : (n : A) → forms.columns.once n ≡ true → num n ≡ 1

-- whether the map over the groups of a row is an `if`
abbrev pub is_once_along : {A : Type 0} → GridForms A → Term A → Bool
is_once_along forms (Reshape y t) = is_once_along forms t
is_once_along forms (Map kind n loads xs b) = forms.columns.once n
is_once_along forms _ = false

-- whether both maps over groups are: then no barrier need close the body
abbrev pub is_once_over : {A : Type 0} → GridForms A → Term A → Bool
is_once_over forms (Reshape y t) = is_once_over forms t
is_once_over forms (LetArray v b) = is_once_over forms b
is_once_over forms (Map kind n loads xs b) = forms.rows.once n && is_once_along forms b
is_once_over forms _ = false

-- how many phases a map over the groups of a row has
abbrev pub phases_along : {A : Type 0} → Term A → ℕ
phases_along (Reshape y t) = phases_along t
phases_along (Map kind n loads xs b) = phases_in b
phases_along _ = 0

-- and a whole term
abbrev pub grid_phase_count : {A : Type 0} → Term A → ℕ
grid_phase_count (Reshape y t) = grid_phase_count t
grid_phase_count (LetArray v b) = grid_phase_count b
grid_phase_count (Map kind n loads xs b) = phases_along b
grid_phase_count _ = 0

-- the kernel is printed for the term of this type, which is a map over rows of groups around one
-- over the groups of a row, at this launch and with these cells
pub record IsPrintedOverGrid {A : Type 0} (l : Launch) (num : A → ℕ) (forms : GridForms A)
    (src : ℕ → Ty) (ins : ℕ → Marks) (sources : ℕ → Scalars) (fence : ℕ → Fencing) (t : Term A)
    (ty : Ty)
    (k : Kernel) (c : Cells) : Type 0 where
  pub made : IsMadeFor l num src ins sources t ty k c
  pub makes : MakeGridTurns forms num l
  pub stands : StandsOverGrid t
  pub code : IsOverGrid num forms l ins fence no_marks t (output_marks ty) k.code
  pub locals : k.locals ≡ copy_lengths LocalMemory t

-- the barriers keep conflicting phases apart, and none stands before the first
pub record AreApartOverGrid {A : Type 0} (forms : GridForms A) (t : Term A) (fence : ℕ → Fencing)
    : Type 0 where
  pub separates : Separates (grid_touches t) placed.Local (is_once_over forms t) (grid_phase_count t)
      fence
  pub opens : fence 0 ≡ Open

-- with such barriers, every run leaves lists that hold the term's scalars, each cell written by its
-- owner
abbrev pub SeparatedGridsKeep : Type 0 → Type 0
SeparatedGridsKeep A =
    (num : A → ℕ) (forms : GridForms A) (l : Launch) (src : ℕ → Ty) (ins : ℕ → Marks)
    (sources : ℕ → Scalars) (fence : ℕ → Fencing) (t : Term A) (ty : Ty) (k : Kernel) (c : Cells)
    (lists : List (List ℕ))
    → IsPrintedOverGrid l num forms src ins sources fence t ty k c → AreApartOverGrid forms t fence
    → map length lists ≡ map length c.outs → AreLists ty (scalars_of num sources no_scalars t) lists
    → EveryRunKeeps k l c (λ a i. owner num l t (unflat ty i)) lists

-- and its barriers serve
abbrev pub SeparatedGridsServe : Type 0 → Type 0
SeparatedGridsServe A =
    (num : A → ℕ) (forms : GridForms A) (l : Launch) (src : ℕ → Ty) (ins : ℕ → Marks)
    (sources : ℕ → Scalars) (fence : ℕ → Fencing) (t : Term A) (ty : Ty) (k : Kernel) (c : Cells)
    (lists : List (List ℕ))
    → IsPrintedOverGrid l num forms src ins sources fence t ty k c → AreApartOverGrid forms t fence
    → map length lists ≡ map length c.outs → AreLists ty (scalars_of num sources no_scalars t) lists
    → (filler : Cell → ℕ) × BarriersServeAll k l c filler

-- there is a phase, and each use is one of a phase and of a local array
pub record GridCanBePlaced {A : Type 0} (t : Term A) : Type 0 where
  pub some : 0 < grid_phase_count t
  pub within : All (λ x. x.phase < grid_phase_count t) (grid_touches t)
  pub local : All (λ x. space_of x.local ≡ placed.Local) (grid_touches t)

abbrev pub GridUsesCanBePlaced : Type 0 → Type 0
GridUsesCanBePlaced A = (t : Term A) → StandsOverGrid t → GridCanBePlaced t

-- the needed barriers keep conflicting phases apart
abbrev pub NeededKeepGridsApart : Type 0 → Type 0
NeededKeepGridsApart A =
    (forms : GridForms A) (t : Term A) (fence : ℕ → Fencing) → StandsOverGrid t
    → Needed (grid_touches t) (is_once_over forms t) (grid_phase_count t) fence
    → AreApartOverGrid forms t fence

-- so with them every run leaves the source value's lists
abbrev pub NeededGridsKeep : Type 0 → Type 0
NeededGridsKeep A =
    (num : A → ℕ) (forms : GridForms A) (l : Launch) (w : World) (source : Tree) (inputs : ℕ)
    (src : ℕ → Ty) (ins : ℕ → Marks) (sources : ℕ → Scalars) (fence : ℕ → Fencing) (t : Term A)
    (ty : Ty)
    (k : Kernel) (c : Cells)
    → Lowers num w 0 inputs source t
    → ((a : ℕ) → a < inputs → HasScalars (src a) (nth w.inputs a) (sources a))
    → IsPrintedOverGrid l num forms src ins sources fence t ty k c
    → Needed (grid_touches t) (is_once_over forms t) (grid_phase_count t) fence
    → EveryRunKeeps k l c (λ a i. owner num l t (unflat ty i)) (lists_of ty (meaning w [] source))

-- local maps without a statement have a turn for each item
pub record TakeOne {A : Type 0} (forms : GridForms A) (num : A → ℕ) (l : Launch) : Type 0 where
  pub rows : (n : A) → forms.rows.local n ≡ Alone → num n ≡ l.local.1
  pub columns : (n : A) → forms.columns.local n ≡ Alone → num n ≡ l.local.0

-- any two codes that are printed for one term with the same barriers are alike
abbrev pub GridCodesAlike : Type 0 → Type 0
GridCodesAlike A =
    (l : Launch) (num : A → ℕ) (forms : GridForms A) (ins : ℕ → Marks) (one other : ℕ → Fencing)
    (t : Term A) (w : Marks) (a b : Code) (item : ℕ) → IsWhole l → TakeOne forms num l
    → item < item_count l → ((q : ℕ) → q ≤ grid_phase_count t → one q ≡ other q)
    → IsOverGrid num forms l ins one no_marks t w a → IsOverGrid num forms l ins other no_marks t w b
    → Alike true l item [] a b
