-- What is printed for a term is printed for it when it is tidied: indices and bounds keep values.
use Rattle.std.specs.Prelude.{ℕ, ◌<◌, List, [], Option}
use Rattle.lift_tree.specs.Tree.{Tree}
use Rattle.lift_tree.specs.Typing.{Declared}
use Rattle.lift_tree.specs.Annotations.{Annotation}
use Rattle.kernel_tree.specs.Code.{Code, Kernel}
use Rattle.kernel_tree.specs.Launch.{Launch, item_count, ids_of}
use Rattle.barrier_placement.specs.Fencing.{Fencing}
use Rattle.lift_ir.specs.Types.{Ty}
use Rattle.lift_ir.specs.Terms.{LoadSet, Kind, Term, push}
use Rattle.lift_ir.specs.Scalars.{at_index}
use Rattle.printed_form.specs.Counts.{Count, more, load_count}
use Rattle.printed_form.specs.Marks.{Marks, loaded_marks}
use Rattle.printed_form.specs.Form.{IsLoaded, IsWritten}
use Rattle.printed_form.specs.MapForms.{MapForm, MapForms, TurnCode, AreTurns}
use Rattle.printed_form.specs.Whole.{IsCode}
use Rattle.group_form.specs.Form.{IsOverGroups}
use Rattle.group_form.specs.GridForm.{IsOverGrid}
use Rattle.group_form.specs.GridTerms.{GridForms}
use Rattle.group_form.specs.Kernels.{Printer, PrintsBy}
use Rattle.tidy_indices.specs.Around.{Around, StandsIn}
use Rattle.tidy_indices.specs.Laws.{Change, KeepsValues}
use Rattle.tidy_kernels.specs.Pass.{tidied_code, tidied_kernel}

module _ {A : Type 0} (l : Launch) (item : ℕ) (ins : ℕ → Marks) (num : A → ℕ) where
  -- a turn of a map: the loads of its element, and what is written for the map's body
  abbrev pub IsMapTurn : (env : ℕ → Marks) → (a : ℕ) → (n : Count) → LoadSet → (from to : Marks) → Term A
      → TurnCode
  IsMapTurn env a n loads x w b ts i body last =
      (inner : Code) × IsLoaded l item ins ts loads (at_index i x) n body inner
      × IsWritten l item ins num ts (push (loaded_marks loads (at_index i x) n) env) a
      (more n (load_count loads)) b (at_index i w) inner last

-- in these loops and ifs, at these turns
abbrev pub TidiedLoadsArePrinted : Type 0
TidiedLoadsArePrinted =
    (l : Launch) (item : ℕ) (ins : ℕ → Marks) (tidy : Change) (around : List Around)
    (ts : List ℕ) (loads : LoadSet) (x : Marks) (n : Count) (code rest : Code)
    → KeepsValues tidy l → item < item_count l → StandsIn (ids_of l item) around ts
    → IsLoaded l item ins ts loads x n code rest
    → IsLoaded l item ins ts loads x n (tidied_code tidy around code) (tidied_code tidy around rest)

-- and there a map of any kind in any form
abbrev pub TidiedMapsArePrinted : Type 0 → Type 0
TidiedMapsArePrinted A =
    (l : Launch) (item : ℕ) (ins : ℕ → Marks) (num : A → ℕ) (tidy : Change)
    (around : List Around) (ts : List ℕ) (form : MapForm) (kind : Kind) (len : ℕ)
    (env : ℕ → Marks) (a : ℕ) (n : Count) (loads : LoadSet) (x w : Marks) (b : Term A)
    (code rest : Code)
    → KeepsValues tidy l → item < item_count l → StandsIn (ids_of l item) around ts
    → AreTurns l item ins form kind ts len (IsMapTurn l item ins num env a n loads x w b) code rest
    → AreTurns l item ins form kind ts len (IsMapTurn l item ins num env a n loads x w b)
    (tidied_code tidy around code) (tidied_code tidy around rest)

-- of any term, by one work-item or over the launch
abbrev pub TidiedCodesArePrinted : Type 0 → Type 0
TidiedCodesArePrinted A =
    (l : Launch) (ins : ℕ → Marks) (num : A → ℕ) (tidy : Change) (t : Term A) (ty : Ty)
    (code : Code)
    → KeepsValues tidy l → IsCode l ins num t ty code
    → IsCode l ins num t ty (tidied_code tidy [] code)

-- of any term over work-groups, with the same barriers
abbrev pub TidiedGroupCodesArePrinted : Type 0 → Type 0
TidiedGroupCodesArePrinted A =
    (num : A → ℕ) (forms : MapForms A) (l : Launch) (ins : ℕ → Marks) (fence : ℕ → Fencing)
    (env : ℕ → Marks) (tidy : Change) (t : Term A) (to : Marks) (code : Code)
    → KeepsValues tidy l → IsOverGroups num forms l ins fence env t to code
    → IsOverGroups num forms l ins fence env t to (tidied_code tidy [] code)

-- and of any term over work-groups in two dimensions
abbrev pub TidiedGridCodesArePrinted : Type 0 → Type 0
TidiedGridCodesArePrinted A =
    (num : A → ℕ) (forms : GridForms A) (l : Launch) (ins : ℕ → Marks) (fence : ℕ → Fencing)
    (env : ℕ → Marks) (tidy : Change) (t : Term A) (to : Marks) (code : Code)
    → KeepsValues tidy l → IsOverGrid num forms l ins fence env t to code
    → IsOverGrid num forms l ins fence env t to (tidied_code tidy [] code)

-- of a program's typed term, by each printer
abbrev pub TidiedKernelsArePrinted : Type 0
TidiedKernelsArePrinted =
    (p : Printer) (d : Declared) (size : Option (ℕ × ℕ)) (bases : List ℕ) (t : Tree)
    (a : Annotation) (l : Launch) (tidy : Change) (k : Kernel)
    → KeepsValues tidy l → PrintsBy p d size bases t a l k
    → PrintsBy p d size bases t a l (tidied_kernel tidy k)
