-- Kernels that are printed for one term, and texts of one program's kernels, run alike.
use Rattle.std.specs.Prelude.{ℕ, List, Option, Bool}
use Rattle.kernel_tree.specs.Alike.{GoesAlike}
use Rattle.kernel_tree.specs.Code.{Kernel}
use Rattle.kernel_tree.specs.Device.{IsStart, State, device_of}
use Rattle.kernel_tree.specs.Launch.{Cells, Launch}
use Rattle.launch_file.specs.LaunchFile.{Given, IsLaunchFile, Run}
use Rattle.launch_file.specs.Stages.{GivenInOrder, IsStagesFile}
use Rattle.lift_tree.specs.Annotations.{Annotation}
use Rattle.lift_tree.specs.Launches.{Asks}
use Rattle.lift_tree.specs.Meaning.{World}
use Rattle.lift_tree.specs.Programs.{PlainProgram}
use Rattle.lift_tree.specs.Tree.{Tree}
use Rattle.lift_tree.specs.Types.{PlainTy}
use Rattle.lift_tree.specs.Typing.{Declared, IsAdmissible}
use Rattle.lowered_tree.specs.Copies.{CopiesArrays}
use Rattle.lowered_tree.specs.Kinds.{asks_of}
use Rattle.nest_premises.specs.Legal.{IsLegalTerm}
use Rattle.nest_premises.specs.Printable.{printer_for}
use Rattle.printed_form.specs.Programs.{AreBuffersOf, IsLaunchOf, SameContents}
use Rattle.program_source.specs.Program.{IsRead}
use Rattle.group_form.specs.Kernels.{PrintsBy}
use Rattle.compilation.specs.Compiled.{IsCompiled}
use Rattle.compilation.specs.Sequence.{IsCompiledSequence, Outline}
use Rattle.program_runs.specs.Runs.{AreLinesOfText}
use Rattle.program_runs.specs.Sequences.{IsSequenceLine}
use Rattle.program_runs.specs.Started.{AreRunLines, IsRunStagesLine, asks_in_order}

-- any two kernels that are printed for one legal term, by the printer of its kind, with one local
-- size or none, go alike at one launch and from the same contents: the same events can come, with
-- the same accesses, and each schedule makes the same run of both; so it is for a program's kernel
-- and, with the outputs of those before it as inputs, for each of several in order
abbrev pub PrintedKernelsGoAlike : Type 0
PrintedKernelsGoAlike =
    (d : Declared) (local : Option (ℕ × ℕ)) (t : Tree) (n : Annotation) (w : World) (l : Launch)
    (k m : Kernel) (c : Cells) (s r : State)
    → IsLegalTerm d t n → CopiesArrays t n → IsAdmissible d w
    → IsLaunchOf d (asks_of local t) w.bases t n l → AreBuffersOf d w t n c
    → PrintsBy (printer_for t) d local w.bases t n l k
    → PrintsBy (printer_for t) d local w.bases t n l m
    → IsStart k l c s → IsStart m l c r → SameContents l s r
    → GoesAlike (device_of k l c) s (device_of m l c) r

-- The lines are those of the run of the text, at what the launch file gives the program.
pub record AreLinesOf (program launch : List ℕ) (traced : Bool) (text lines : List ℕ) : Type 0 where
  pub source : PlainProgram
  pub output : PlainTy
  pub asks : Asks
  pub read : IsRead program source
  pub given : Given
  pub launch_file : IsLaunchFile source (Run asks) launch given
  pub run : AreLinesOfText source output text given traced lines

-- the lines of a run are those of every text of the program's kernel, whatever stands in its
-- indices and bounds, and so of the text that is written for the same files
abbrev pub TextsRunAlike : Type 0
TextsRunAlike =
    (program script launch : List ℕ) (traced : Bool) (lines : List ℕ)
    → AreRunLines program script launch traced lines
    → (source : PlainProgram) (output : PlainTy) (asks : Asks) (text : List ℕ)
    → IsCompiled program script source output asks text
    → AreLinesOf program launch traced text lines

-- The line is that of the runs in order of the text's kernels, at what the launch file gives the
-- program.
pub record IsLineOfSequence (program launch text line : List ℕ) : Type 0 where
  pub source : PlainProgram
  pub outlines : List Outline
  pub read : IsRead program source
  pub given : GivenInOrder
  pub launch_file : IsStagesFile source (asks_in_order outlines) launch given
  pub run : IsSequenceLine source outlines text given line

-- the line of runs in order is that of every text of the program's kernels in order, and so of the
-- text that is written for the same files
abbrev pub SequencesRunAlike : Type 0
SequencesRunAlike =
    (program script launch line : List ℕ)
    → IsRunStagesLine program script launch line
    → (source : PlainProgram) (output : PlainTy) (outlines : List Outline) (text : List ℕ)
    → IsCompiledSequence program script source output outlines text
    → IsLineOfSequence program launch text line
