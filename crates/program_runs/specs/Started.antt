-- What a run and an evaluation are started from.
use Rattle.std.specs.Prelude.{◌≡◌, ℕ, List, None, Bool, map, Result, Ok, Err}
use Rattle.lift_tree.specs.Programs.{PlainProgram}
use Rattle.lift_tree.specs.Types.{PlainTy}
use Rattle.lift_tree.specs.Launches.{Asks}
use Rattle.lowered_tree.specs.Kinds.{asks_of}
use Rattle.launch_file.specs.Judged.{Refuses}
use Rattle.launch_file.specs.LaunchFile.{Given, IsLaunchFile, PlainAsk, Run, Eval, Cost}
use Rattle.launch_file.specs.ResultLine.{result_line}
use Rattle.launch_file.specs.Stages.{GivenInOrder, IsStagesFile, RefusesStages}
use Rattle.launch_file.specs.declared.refusal.LaunchNo.{LaunchNo}
use Rattle.fault_lines.specs.Failure.{Failure, launch_failed, source_failed}
use Rattle.program_source.specs.Program.{IsRead, TypesOf, source_value}
use Rattle.stages.specs.Stages.{As, Then}
use Rattle.strategy_script.specs.LocalSize.{local_fixed}
use Rattle.compilation.specs.Compiled.{IsCompiled}
use Rattle.compilation.specs.Legal.{LegalOf}
use Rattle.compilation.specs.Sequence.{IsCompiledSequence, Outline, SequenceOf, outline_in}
use Rattle.program_runs.specs.Runs.{AreLinesOfText, world_given}
use Rattle.program_runs.specs.Sequences.{IsSequenceLine}

-- what a launch file gives a program, or the first check that it fails
abbrev pub LaunchOf : PlainProgram → PlainAsk → (launch : List ℕ) → Result Given LaunchNo → Type 0
LaunchOf p ask launch (Ok given) = IsLaunchFile p ask launch given
LaunchOf p ask launch (Err why) = Refuses p ask launch why

-- what a launch file gives a compiled program, or the first stage that stops: all of compilation,
-- then the launch file, for what the last term asks of it with the local size that the script
-- fixes
abbrev pub LaunchedOf : (ask : Asks → PlainAsk) → PlainProgram → (script launch : List ℕ)
    → Result Given Failure → Type 0
LaunchedOf ask p script launch =
    Then (As source_failed (LegalOf p script))
    (λ last. As (launch_failed p)
    (LaunchOf p (ask (asks_of (local_fixed script) last.tree)) launch))

-- what a run is given
abbrev pub RunOf : PlainProgram → (script launch : List ℕ) → Result Given Failure → Type 0
RunOf = LaunchedOf Run

-- what a cost is given, which has no inputs and no schedule
abbrev pub CostOf : PlainProgram → (script launch : List ℕ) → Result Given Failure → Type 0
CostOf = LaunchedOf Cost

-- what an evaluation is given, or the first stage that stops: the types, then the launch file
abbrev pub EvalOf : PlainProgram → (launch : List ℕ) → Result Given Failure → Type 0
EvalOf p launch =
    Then (As source_failed (TypesOf p)) (λ _. As (launch_failed p) (LaunchOf p Eval launch))

-- each kernel's launch is to be as that asks for
abbrev pub asks_in_order : List Outline → List PlainAsk
asks_in_order outlines = map (λ (o : Outline). Run o.asks) outlines

-- what a launch file gives to kernels in order, or the first check that it fails
abbrev pub LaunchesOf : PlainProgram → List PlainAsk → (launch : List ℕ)
    → Result GivenInOrder LaunchNo
    → Type 0
LaunchesOf p asks launch (Ok given) = IsStagesFile p asks launch given
LaunchesOf p asks launch (Err why) = RefusesStages p asks launch why

-- what the runs of kernels in order are given, or the first stage that stops: all of their
-- compilation, then the launch file
abbrev pub RunStagesOf : PlainProgram → (script launch : List ℕ) → Result GivenInOrder Failure
    → Type 0
RunStagesOf p script launch =
    Then (As source_failed (SequenceOf p script))
    (λ parts. As (launch_failed p)
    (LaunchesOf p (asks_in_order (map (outline_in (local_fixed script)) parts)) launch))

-- The lines are those of the run of what is read back from the text of the program's kernel: its
-- events, where it is traced, the source's value, and the counts of that run.
pub record AreRunLines (program script launch : List ℕ) (traced : Bool)
    (lines : List ℕ) : Type 0 where
  pub source : PlainProgram
  pub output : PlainTy
  pub asks : Asks
  pub text : List ℕ
  pub compiled : IsCompiled program script source output asks text
  pub given : Given
  pub launch_file : IsLaunchFile source (Run asks) launch given
  pub run : AreLinesOfText source output text given traced lines

-- The line is that of the value of the source expression, at the launch file's sizes and inputs.
pub record IsValueLine (program launch line : List ℕ) : Type 0 where
  pub source : PlainProgram
  pub given : Given
  pub read : IsRead program source
  pub started : EvalOf source launch (Ok given)
  pub written : line ≡ result_line (source_value source (world_given given)) None

-- The line is that of the runs in order of what is read back from the text of the program's
-- kernels: the source's value, and the counts of those runs together.
pub record IsRunStagesLine (program script launch line : List ℕ) : Type 0 where
  pub source : PlainProgram
  pub output : PlainTy
  pub outlines : List Outline
  pub text : List ℕ
  pub compiled : IsCompiledSequence program script source output outlines text
  pub given : GivenInOrder
  pub launch_file : IsStagesFile source (asks_in_order outlines) launch given
  pub run : IsSequenceLine source outlines text given line
