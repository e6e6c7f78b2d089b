-- The run of a kernel at what a launch file gives, and what is told of it.
use Rattle.std.specs.Prelude.{◌≡◌, ◌++◌, ℕ, List, [], Bool, Some, if◌then◌else◌, map, replicate}
use Rattle.kernel_tree.specs.declared.events.Event.{Event}
use Rattle.kernel_tree.specs.declared.events.Seen.{Seen}
use Rattle.kernel_tree.specs.Code.{Kernel}
use Rattle.kernel_tree.specs.KernelText.{IsKernelText, lift}
use Rattle.kernel_tree.specs.Device.{device_of, start_state}
use Rattle.kernel_tree.specs.Launch.{Cells, Launch}
use Rattle.ndrange_device.specs.Outcomes.{EndsUnder, sights}
use Rattle.lift_tree.specs.Launches.{Asks, IsAdmissibleLaunch, buffers_of, lists_of}
use Rattle.lift_tree.specs.Meaning.{World}
use Rattle.lift_tree.specs.Programs.{PlainProgram}
use Rattle.lift_tree.specs.Types.{PlainTy}
use Rattle.lift_tree.specs.Typing.{IsAdmissible, declared_by}
use Rattle.value_lists.specs.Lists.{list_lengths}
use Rattle.launch_file.specs.LaunchFile.{Given}
use Rattle.launch_file.specs.ResultLine.{result_line}
use Rattle.launch_file.specs.TraceLines.{trace_lines}
use Rattle.program_source.specs.Program.{source_value}

-- the sizes and the inputs that a launch file gives
abbrev pub world_given : Given → World
world_given g = record { bases = g.bases; sizes = g.launch.sizes; inputs = g.inputs }

-- the inputs in their buffers, the output's as long as its type says, and 0 in all other memory
abbrev pub begun : PlainProgram → PlainTy → World → Cells
begun p output w = record {
  ins = buffers_of (declared_by p).inputs w.inputs;
  outs = map (λ n. replicate n 0) (list_lengths w.bases output);
  rest = 0;
}

-- the sizes, the inputs and the launch that are given are admissible for the program
pub record IsAdmissibleFor (p : PlainProgram) (asks : Asks) (g : Given) : Type 0 where
  pub world : IsAdmissible (declared_by p) (world_given g)
  pub launch : IsAdmissibleLaunch
      (declared_by p).names asks g.bases g.launch.global g.launch.local

-- the kernel's run under the schedule, at the launch and on the inputs that are given leaves the
-- source's value, and has so many events, so many of them releases
abbrev pub RunsAsGiven : PlainProgram → (output : PlainTy) → Kernel → Given → (events releases : ℕ)
    → Type 0
RunsAsGiven p output k g events releases =
    EndsUnder g.schedule k g.launch (begun p output (world_given g))
    (lists_of output (source_value p (world_given g))) events releases

-- what is seen of the events of a kernel's run, where it is traced
abbrev pub traced_sights : (traced : Bool) → Kernel → Launch → Cells → List Event → List Seen
traced_sights traced k l c es = if traced then sights (device_of k l c) (start_state k c) es else []

-- The text is a kernel's, whose run at what is given leaves the source's value, and has so many
-- events, so many of them releases; this is seen of them, where the run is traced.
pub record RunsText (p : PlainProgram) (output : PlainTy) (text : List ℕ) (g : Given)
    (traced : Bool) (events releases : ℕ) (seen : List Seen) : Type 0 where
  pub kernel : Kernel
  pub read : IsKernelText lift text kernel
  pub run : RunsAsGiven p output kernel g events releases
  pub seen_of_it : seen
      ≡ traced_sights traced kernel g.launch (begun p output (world_given g)) run.run

-- The lines are those of the run of the text: where it is traced one for each of its events, in
-- turn; and then the source's value, and the counts of that run's events and of its releases.
pub record AreLinesOfText (p : PlainProgram) (output : PlainTy) (text : List ℕ) (g : Given)
    (traced : Bool) (lines : List ℕ) : Type 0 where
  pub events : ℕ
  pub releases : ℕ
  pub seen : List Seen
  pub run : RunsText p output text g traced events releases seen
  pub written : lines ≡ trace_lines seen
      ++ result_line (source_value p (world_given g)) (Some (events, releases))
