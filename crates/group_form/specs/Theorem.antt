-- What holds of every kernel that is printed for a map over work-groups.
use Rattle.std.specs.Prelude.{◌≡◌, ℕ, ◌<◌, Bool, true, List, All, Contains, [], length, map}
use Rattle.kernel_tree.specs.Code.{Kernel}
use Rattle.kernel_tree.specs.Device.{Cell}
use Rattle.kernel_tree.specs.Launch.{Launch, Cells}
use Rattle.barrier_placement.specs.declared.touches.Touch.{Touch}
use Rattle.barrier_placement.specs.Conflicts as placed
use Rattle.barrier_placement.specs.Conflicts.{space_of}
use Rattle.barrier_placement.specs.Fencing.{Fencing, Open}
use Rattle.barrier_placement.specs.Needed.{Needed}
use Rattle.barrier_placement.specs.Separates.{Separates}
use Rattle.lift_tree.specs.Tree.{Tree}
use Rattle.lift_tree.specs.Values.{nth}
use Rattle.lift_tree.specs.Meaning.{World, meaning}
use Rattle.lift_ir.specs.Types.{Ty, unflat}
use Rattle.lift_ir.specs.Terms.{LocalMemory, Term}
use Rattle.lift_ir.specs.Scalars.{Scalars, scalars_of, no_scalars, HasScalars, lists_of, AreLists}
use Rattle.lift_ir.specs.Sources.{Lowers}
use Rattle.lift_ir.specs.Owner.{owner}
use Rattle.printed_form.specs.Counts.{copy_lengths, local_count}
use Rattle.printed_form.specs.Headline.{EveryRunKeeps}
use Rattle.printed_form.specs.MapForms.{MapForms, MakeTurns}
use Rattle.printed_form.specs.Marks.{Marks}
use Rattle.printed_form.specs.Whole.{no_marks, output_marks, IsMadeFor}
use Rattle.group_phases.specs.Outcome.{BarriersServeAll}
use Rattle.group_form.specs.Forms.{StandsInGroup, StandsOverGroups}
use Rattle.group_form.specs.Uses.{phase_count, group_touches}
use Rattle.group_form.specs.Form.{is_once, IsOverGroups}

-- the kernel is printed for the term of this type, which is a map over work-groups, at this launch
-- of one row and with these cells, each map in a form that makes its turns there. What stands
-- before each phase, and closes the body, is `fence`
pub record IsPrintedOverGroups {A : Type 0} (l : Launch) (num : A → ℕ) (forms : MapForms A)
    (src : ℕ → Ty) (ins : ℕ → Marks) (sources : ℕ → Scalars) (fence : ℕ → Fencing) (t : Term A)
    (ty : Ty)
    (k : Kernel) (c : Cells) : Type 0 where
  pub made : IsMadeFor l num src ins sources t ty k c
  pub makes : MakeTurns forms num l
  pub stands : StandsOverGroups t
  pub code : IsOverGroups num forms l ins fence no_marks t (output_marks ty) k.code
  pub locals : k.locals ≡ copy_lengths LocalMemory t

-- the barriers keep conflicting phases apart, and none stands before the first
pub record IsKeptApart {A : Type 0} (forms : MapForms A) (t : Term A) (fence : ℕ → Fencing)
    : Type 0 where
  pub separates : Separates (group_touches t) placed.Local (is_once forms t) (phase_count t) fence
  pub opens : fence 0 ≡ Open

-- there is a phase, and each use is one of a phase and of a local array
pub record CanBePlaced {A : Type 0} (t : Term A) : Type 0 where
  pub some : 0 < phase_count t
  pub within : All (λ x. x.phase < phase_count t) (group_touches t)
  pub local : All (λ x. space_of x.local ≡ placed.Local) (group_touches t)

-- so it is in a map over work-groups
abbrev pub GroupUsesCanBePlaced : Type 0 → Type 0
GroupUsesCanBePlaced A = (t : Term A) → StandsOverGroups t → CanBePlaced t

-- with such barriers, every run leaves lists that hold the term's scalars, each cell written by its
-- owner
abbrev pub SeparatedGroupsKeep : Type 0 → Type 0
SeparatedGroupsKeep A =
    (num : A → ℕ) (forms : MapForms A) (l : Launch) (src : ℕ → Ty) (ins : ℕ → Marks)
    (sources : ℕ → Scalars) (fence : ℕ → Fencing) (t : Term A) (ty : Ty) (k : Kernel) (c : Cells)
    (lists : List (List ℕ))
    → IsPrintedOverGroups l num forms src ins sources fence t ty k c → IsKeptApart forms t fence
    → map length lists ≡ map length c.outs → AreLists ty (scalars_of num sources no_scalars t) lists
    → EveryRunKeeps k l c (λ a i. owner num l t (unflat ty i)) lists

-- and its barriers serve: the items of a group meet the same ones, between which each cell of a
-- local array that is written is one item's
abbrev pub SeparatedGroupsServe : Type 0 → Type 0
SeparatedGroupsServe A =
    (num : A → ℕ) (forms : MapForms A) (l : Launch) (src : ℕ → Ty) (ins : ℕ → Marks)
    (sources : ℕ → Scalars) (fence : ℕ → Fencing) (t : Term A) (ty : Ty) (k : Kernel) (c : Cells)
    (lists : List (List ℕ))
    → IsPrintedOverGroups l num forms src ins sources fence t ty k c → IsKeptApart forms t fence
    → map length lists ≡ map length c.outs → AreLists ty (scalars_of num sources no_scalars t) lists
    → (filler : Cell → ℕ) × BarriersServeAll k l c filler

-- with the needed barriers, every run leaves the source value's lists
abbrev pub NeededGroupsKeep : Type 0 → Type 0
NeededGroupsKeep A =
    (num : A → ℕ) (forms : MapForms A) (l : Launch) (w : World) (source : Tree) (inputs : ℕ)
    (src : ℕ → Ty) (ins : ℕ → Marks) (sources : ℕ → Scalars) (fence : ℕ → Fencing) (t : Term A)
    (ty : Ty)
    (k : Kernel) (c : Cells)
    → Lowers num w 0 inputs source t
    → ((a : ℕ) → a < inputs → HasScalars (src a) (nth w.inputs a) (sources a))
    → IsPrintedOverGroups l num forms src ins sources fence t ty k c
    → Needed (group_touches t) (is_once forms t) (phase_count t) fence
    → EveryRunKeeps k l c (λ a i. owner num l t (unflat ty i)) (lists_of ty (meaning w [] source))

-- so these barriers keep conflicting phases apart
abbrev pub NeededKeepApart : Type 0 → Type 0
NeededKeepApart A =
    (forms : MapForms A) (t : Term A) (fence : ℕ → Fencing) → StandsOverGroups t
    → Needed (group_touches t) (is_once forms t) (phase_count t) fence → IsKeptApart forms t fence

-- in a group's turn as many local arrays are declared as are counted
abbrev pub LocalArraysAreCounted : Type 0 → Type 0
LocalArraysAreCounted A =
    (t : Term A) → StandsInGroup true t → length (copy_lengths LocalMemory t) ≡ local_count t

-- the needed barriers hang on which uses there are, however often and in whatever order they are
-- told
abbrev pub UsesTellBarriers : Type 0
UsesTellBarriers =
    (xs ys : List Touch) (once : Bool) (n : ℕ) (fence : ℕ → Fencing)
    → ((x : Touch) → Contains xs x → Contains ys x) → ((x : Touch) → Contains ys x → Contains xs x)
    → Needed xs once n fence → Needed ys once n fence

-- and where all are aligned none is needed
abbrev pub AlignedNeedNone : Type 0
AlignedNeedNone =
    (touches : List Touch) (once : Bool) (n : ℕ) → All (λ x. x.aligned ≡ true) touches
    → Needed touches once n (λ q. Open)
