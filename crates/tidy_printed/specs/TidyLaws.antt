-- The indices and bounds of the kernels that are printed with lengths as they are spelled, and of
-- those kernels tidied.
use Rattle.std.specs.Prelude.{◌≡◌, ℕ, true, List, [], Option}
use Rattle.size_arith.specs.declared.names.Name.{Name}
use Rattle.size_arith.specs.Ranges.{AreNames}
use Rattle.lift_tree.specs.Tree.{Tree}
use Rattle.lift_tree.specs.Annotations.{Annotation}
use Rattle.lift_tree.specs.Typing.{Declared}
use Rattle.kernel_tree.specs.Code.{Code}
use Rattle.kernel_tree.specs.Formula.{Formula, LoopVariable, Id}
use Rattle.kernel_tree.specs.Grammar.{is_kernel}
use Rattle.barrier_placement.specs.Fencing.{Fencing}
use Rattle.length_spelling.specs.Formulas.{length_formula}
use Rattle.printed_form.specs.Programs.{lowered_root}
use Rattle.group_form.specs.Kernels.{Printer, StandsFor, kernel_by}
use Rattle.tidy_indices.specs.Tidy.{tidy_formula}
use Rattle.tidy_indices.specs.Around.{Around}
use Rattle.tidy_indices.specs.Laws.{Change}
use Rattle.tidy_kernels.specs.Pass.{tidied_code, tidied_kernel}
use Rattle.tidy_printed.specs.Indices.{EachWithin, IsDeclaredIndex, indices_then}
use Rattle.tidy_printed.specs.Limits.{limits_of}
use Rattle.tidy_printed.specs.Tidy.{IsTidyFor, IsTidyIndex, MakesTidy}

-- what is printed for a term has declared indices and bounds alone, within its limits
abbrev pub TermsHaveIndexFormulas : Type 0
TermsHaveIndexFormulas =
    (p : Printer) (d : Declared) (size : Option (ℕ × ℕ)) (fence : ℕ → Fencing) (t : Tree)
    (a : Annotation)
    →
    (let plain = kernel_by p (length_formula d.names) fence d size t a in AreNames d.names
    → StandsFor p (lowered_root d.names t a) → is_kernel plain ≡ true
    → EachWithin (IsDeclaredIndex d.names) (limits_of d size t a) (indices_then plain.code []))

-- once the kernel is tidied, they are tidy within the limits
abbrev pub TidiedTermsAreTidy : Type 0
TidiedTermsAreTidy =
    (p : Printer) (d : Declared) (size : Option (ℕ × ℕ)) (fence : ℕ → Fencing) (t : Tree)
    (a : Annotation) (tidy : Change)
    →
    (let plain = kernel_by p (length_formula d.names) fence d size t a in AreNames d.names
    → StandsFor p (lowered_root d.names t a) → is_kernel plain ≡ true
    → MakesTidy d.names tidy → IsTidyFor d size t a (tidied_kernel tidy plain))

-- in any code, each such index and each such bound is tidy within its limit when the code is tidied
abbrev pub TidiedCodesAreTidy : Type 0
TidiedCodesAreTidy =
    (names : List Name) (tidy : Change) (limits : List ℕ) (code : Code)
    → MakesTidy names tidy → EachWithin (IsDeclaredIndex names) limits (indices_then code [])
    → EachWithin IsTidyIndex limits (indices_then (tidied_code tidy [] code) [])

-- a turn alone: a loop's variable, or an id
abbrev pub IsTurnAlone : Formula → Type 0
IsTurnAlone (LoopVariable k) = Unit {0}
IsTurnAlone (Id d form) = Unit {0}
IsTurnAlone _ = ⊥

-- it stays when it is made tidy, also in a loop of one turn
abbrev pub TurnsStay : Type 0
TurnsStay =
    (names : List Name) (local : Option (ℕ × ℕ)) (around : List Around) (f : Formula)
    → IsTurnAlone f → tidy_formula names local around f ≡ f

-- the tidy formulas of the declared sizes are such, whatever size groups are asked to have
abbrev pub TidyFormulasMakeTidy : Type 0
TidyFormulasMakeTidy =
    (names : List Name) (local : Option (ℕ × ℕ)) → MakesTidy names (tidy_formula names local)
