-- The demo's line.
use Rattle.std.specs.Prelude.{◌≡◌, ℕ, List}
use Rattle.kernel_tree.specs.Code.{Kernel}
use Rattle.kernel_tree.specs.KernelText.{IsKernelText, lift}
use Rattle.lift_tree.specs.Launches.{Asks, lists_of}
use Rattle.lift_tree.specs.Programs.{PlainProgram}
use Rattle.lift_tree.specs.Types.{PlainTy}
use Rattle.demo_program.specs.Data.{demo_given}
use Rattle.demo_program.specs.Line.{demo_line}
use Rattle.demo_program.specs.Sum.{wrapped_sum}
use Rattle.demo_program.specs.Texts.{program_text, script_text}
use Rattle.program_source.specs.Program.{source_value}
use Rattle.compilation.specs.Compiled.{IsCompiled}
use Rattle.program_runs.specs.Runs.{RunsAsGiven, world_given}

-- The line is that of the run of the text on the demo's data: the text is a kernel's, whose run at
-- the demo's launch leaves the source's value, and has so many events, so many of them releases;
-- and the sum is that of the source's value.
pub record IsLineOfDemo (p : PlainProgram) (output : PlainTy) (text : List ℕ) (seed : ℕ)
    (line : List ℕ) : Type 0 where
  pub kernel : Kernel
  pub read : IsKernelText lift text kernel
  pub events : ℕ
  pub releases : ℕ
  pub run : RunsAsGiven p output kernel (demo_given seed) events releases
  pub written : line
      ≡ demo_line seed (events, releases)
      (wrapped_sum (lists_of output (source_value p (world_given (demo_given seed)))))

-- The line is that of the run of what is read back from the text of the demo's kernel.
pub record IsDemoLine (seed : ℕ) (line : List ℕ) : Type 0 where
  pub source : PlainProgram
  pub output : PlainTy
  pub asks : Asks
  pub text : List ℕ
  pub compiled : IsCompiled program_text script_text source output asks text
  pub run : IsLineOfDemo source output text seed line
