-- The commands: what each writes for the texts of its files, and the stages that stop it.
use Rattle.std.specs.Prelude.{ℕ, zero, suc, List, [], ◌∷◌, Result, Err}
use Rattle.lift_tree.specs.Launches.{Asks}
use Rattle.lift_tree.specs.Programs.{PlainProgram}
use Rattle.lift_tree.specs.Types.{PlainTy}
use Rattle.fault_lines.specs.Failure.{Failure, source_failed}
use Rattle.stages.specs.Stages.{As, Gives, Passed}
use Rattle.program_source.specs.Ends.{Accepts, HasOneEnd, OnSource}
use Rattle.program_source.specs.StepsText.{IsStepsText}
use Rattle.program_source.specs.Terms.{TermsOf}
use Rattle.compilation.specs.Compiled.{IsCompiled}
use Rattle.compilation.specs.Legal.{LegalOf}
use Rattle.compilation.specs.Sequence.{IsCompiledSequence, Outline, SequenceOf}
use Rattle.program_runs.specs.Costs.{AreCostLines}
use Rattle.program_runs.specs.Demo.{IsDemoLine}
use Rattle.program_runs.specs.Started.{AreRunLines, CostOf, EvalOf, IsRunStagesLine, IsValueLine, RunOf, RunStagesOf}
use Rattle.program_runs.specs.declared.command.Command.{Command}
use Rattle.program_runs.specs.declared.command.Command.TheVariants.{Compile, Run, Cost, Eval, Steps, Stages, RunStages, Demo}

-- the text of this number, from 0; there is no text behind the last
abbrev pub text_at : List (List ℕ) → ℕ → List ℕ
text_at [] i = []
text_at (text ∷ texts) zero = text
text_at (text ∷ texts) (suc i) = text_at texts i

-- the text is that of the kernel of a program and a script
pub record IsKernelOf (program script text : List ℕ) : Type 0 where
  pub source : PlainProgram
  pub output : PlainTy
  pub asks : Asks
  pub compiled : IsCompiled program script source output asks text

-- the text is that of the kernels in order of a program and a script
pub record IsSequenceOf (program script text : List ℕ) : Type 0 where
  pub source : PlainProgram
  pub output : PlainTy
  pub outlines : List Outline
  pub compiled : IsCompiledSequence program script source output outlines text

-- what a command writes for the texts of its files
abbrev pub Writes : Command → (texts : List (List ℕ)) → (text : List ℕ) → Type 0
Writes Compile texts text = IsKernelOf (text_at texts 0) (text_at texts 1) text
Writes (Run traced) texts lines =
    AreRunLines (text_at texts 0) (text_at texts 1) (text_at texts 2) traced lines
Writes (Cost items) texts lines =
    AreCostLines (text_at texts 0) (text_at texts 1) (text_at texts 2) items lines
Writes Eval texts line = IsValueLine (text_at texts 0) (text_at texts 1) line
Writes Steps texts text = IsStepsText (text_at texts 0) (text_at texts 1) text
Writes Stages texts text = IsSequenceOf (text_at texts 0) (text_at texts 1) text
Writes RunStages texts line =
    IsRunStagesLine (text_at texts 0) (text_at texts 1) (text_at texts 2) line
Writes (Demo seed) texts line = IsDemoLine seed line

-- the stages of a command on a program, behind those that read it: they pass, or the first that
-- stops says why
abbrev pub stages_of : Command → (texts : List (List ℕ)) → PlainProgram → Result (Unit {0}) Failure
    → Type 0
stages_of Compile texts p = Passed (As source_failed (LegalOf p (text_at texts 1)))
stages_of (Run traced) texts p = Passed (RunOf p (text_at texts 1) (text_at texts 2))
stages_of (Cost items) texts p = Passed (CostOf p (text_at texts 1) (text_at texts 2))
stages_of Eval texts p = Passed (EvalOf p (text_at texts 1))
stages_of Steps texts p = Passed (As source_failed (TermsOf p (text_at texts 1)))
stages_of Stages texts p = Passed (As source_failed (SequenceOf p (text_at texts 1)))
stages_of RunStages texts p = Passed (RunStagesOf p (text_at texts 1) (text_at texts 2))
stages_of (Demo seed) texts p = Gives tt

-- the texts are well formed for the command: the first is a program, on which its stages pass; a
-- demo has none
abbrev pub Takes : Command → (texts : List (List ℕ)) → Type 0
Takes (Demo seed) texts = Unit {0}
Takes command texts = Accepts (text_at texts 0) (stages_of command texts)

-- the first stage that stops for the texts, and why; none stops a demo
abbrev pub Stops : Command → (texts : List (List ℕ)) → Failure → Type 0
Stops (Demo seed) texts failure = ⊥
Stops command texts failure = OnSource (text_at texts 0) (stages_of command texts) (Err failure)

-- the stages of each command come to one end
abbrev pub StagesEndOnce : Type 0
StagesEndOnce =
    (command : Command) (texts : List (List ℕ))
    → HasOneEnd (text_at texts 0) (stages_of command texts)
