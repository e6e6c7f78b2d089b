-- A program's text, and its types.
use Rattle.std.specs.Prelude.{◌≡◌, ◌⊎◌, ◌≤◌, ℕ, List, [], Some, None, Result, Ok, Err}
use Rattle.std.specs.Result.{IsErrAnd}
use Rattle.lift_tree.specs.Annotations.{Annotation}
use Rattle.lift_tree.specs.Meaning.{World, meaning}
use Rattle.lift_tree.specs.Programs.{PlainProgram}
use Rattle.lift_tree.specs.Tree.{height}
use Rattle.lift_tree.specs.Values.{Value}
use Rattle.lift_reader.specs.ProgramText.{IsProgramText, StopsAtToken, first_limit}
use Rattle.lift_reader.specs.declared.refusal.Quantity.{Quantity}
use Rattle.lift_reader.specs.declared.refusal.ReadRefusal.{ReadRefusal}
use Rattle.lift_reader.specs.declared.refusal.ReadRefusal.TheVariants as readings
use Rattle.pattern_types.specs.Judged.{program_judged}
use Rattle.fault_lines.specs.declared.refusal.Refusal.{Refusal}
use Rattle.fault_lines.specs.declared.refusal.Refusal.TheVariants as told
use Rattle.stages.specs.Stages.{As, Then}

-- why a stage stops: for its cause, or for want of memory, which is free
abbrev pub StopsFor : {A : Type 0} → (Result A Refusal → Type 0) → Refusal → Type 0
StopsFor R why = (why ≡ told.Memory) ⊎ R (Err why)

-- where this stops for a cause the call is refused: for that cause, or for want of memory
abbrev pub IsRefusedFor : {A T : Type 0} → (Result A Refusal → Type 0) → Result T Refusal → Type 0
IsRefusedFor R result =
    (why : Refusal) → R (Err why) → IsErrAnd result (λ e. (e ≡ why) ⊎ (e ≡ told.Memory))

-- the text is this program, which is within its limits, and no other
pub record IsRead (text : List ℕ) (p : PlainProgram) : Type 0 where
  pub is : IsProgramText text p
  pub only : (q : PlainProgram) → IsProgramText text q → q ≡ p
  pub within : first_limit p ≡ None

-- the text is a program, and this is its first quantity above its limit
pub record PassesLimit (text : List ℕ) (which : Quantity) (count : ℕ) : Type 0 where
  pub program : PlainProgram
  pub is : IsProgramText text program
  pub passes : (p : PlainProgram) → IsProgramText text p → first_limit p ≡ Some (which, count)

-- the program that a text is, or why it is none within its limits
abbrev pub ReadsProgram : List ℕ → Result PlainProgram ReadRefusal → Type 0
ReadsProgram text (Ok p) = IsRead text p
ReadsProgram text (Err (readings.Syntax token offset)) =
    StopsAtToken text token offset × ((p : PlainProgram) → ¬ IsProgramText text p)
ReadsProgram text (Err (readings.Limit which count)) = PassesLimit text which count
ReadsProgram text (Err readings.Memory) = ⊥

-- the term of a program's text is at most 256 high
abbrev pub ProgramsAreLow : Type 0
ProgramsAreLow = (text : List ℕ) (p : PlainProgram) → IsProgramText text p → height p.body ≤ 256

-- what a program's text comes to, where this is what its program does
abbrev pub OnProgram : {A : Type 0} → List ℕ → (PlainProgram → Result A Refusal → Type 0)
    → Result A Refusal → Type 0
OnProgram text S = Then (As told.Program (ReadsProgram text)) S

-- the types of its inputs and of the nodes of its term, or the first rule that is
-- broken, or limit that is passed
abbrev pub TypesOf : PlainProgram → Result Annotation Refusal → Type 0
TypesOf p = As told.Typing (λ r. program_judged p p.body ≡ r)

-- the program's value at these sizes and inputs
abbrev pub source_value : PlainProgram → World → Value
source_value p w = meaning w [] p.body
