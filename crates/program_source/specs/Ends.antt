-- How the stages of a text end.
use Rattle.std.specs.Prelude.{◌≡◌, ◌⊎◌, ℕ, List, None, Result, Ok, Err}
use Rattle.std.specs.Result.{IsErrAnd}
use Rattle.lift_reader.specs.ProgramText.{IsProgramText, first_limit}
use Rattle.lift_tree.specs.Programs.{PlainProgram}
use Rattle.fault_lines.specs.Failure.{Failure, HidesNoMemory, Memory, source_failed}
use Rattle.fault_lines.specs.Shown.{failure_of}
use Rattle.fault_lines.specs.declared.failure.Failure as code
use Rattle.fault_lines.specs.declared.refusal.Refusal.TheVariants as told
use Rattle.program_source.specs.Program.{ReadsProgram}
use Rattle.stages.specs.Stages.{As, Then}

-- why a call stops: for its cause, or for want of memory, which is free
abbrev pub FailsFor : {A : Type 0} → (Result A Failure → Type 0) → Failure → Type 0
FailsFor R failure = (failure ≡ Memory) ⊎ R (Err failure)

-- where this stops for a cause the call fails: for that cause, or for want of memory
abbrev pub IsFailedFor :
    {A T : Type 0} → (Result A Failure → Type 0) → Result T code.Failure → Type 0
IsFailedFor R result =
    (why : Failure) → R (Err why)
    → IsErrAnd result (λ e. (failure_of e ≡ why) ⊎ (failure_of e ≡ Memory))

-- what a program's text comes to, where this is what its program does
abbrev pub OnSource : {A : Type 0} → List ℕ → (PlainProgram → Result A Failure → Type 0)
    → Result A Failure → Type 0
OnSource text S = Then (As (λ why. source_failed (told.Program why)) (ReadsProgram text)) S

-- the text is a program within its limits, on which this makes something
abbrev pub Accepts : {A : Type 0} → List ℕ → (PlainProgram → Result A Failure → Type 0) → Type 0
Accepts {A = A} text S =
    (p : PlainProgram) × IsProgramText text p × (first_limit p ≡ None) × ((a : A) × S p (Ok a))

-- a text stops for one cause at most, in which no want of memory is hidden,
-- and for none where it is accepted
pub record HasOneEnd {A : Type 0} (text : List ℕ)
    (S : PlainProgram → Result A Failure → Type 0) : Type 0 where
  pub cause : (f g : Failure) → OnSource text S (Err f) → OnSource text S (Err g) → f ≡ g
  pub none : (f : Failure) → Accepts text S → ¬ OnSource text S (Err f)
  pub whole : (f : Failure) → OnSource text S (Err f) → HidesNoMemory f
