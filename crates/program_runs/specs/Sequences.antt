-- The runs of kernels in order at what a launch file gives, and what is told of them.
use Rattle.std.specs.Prelude.{◌≡◌, ◌++◌, ℕ, List, [], ◌∷◌, Some, map, replicate, sum_by}
use Rattle.kernel_spelling.specs.SequenceText.{IsSequenceText}
use Rattle.kernel_tree.specs.Code.{Kernel}
use Rattle.kernel_tree.specs.Launch.{Cells, Launch}
use Rattle.kernel_tree.specs.Schedule.{Schedule}
use Rattle.ndrange_device.specs.Outcomes.{EndsUnder, capped}
use Rattle.lift_tree.specs.Launches.{IsAdmissibleLaunch, buffers_of}
use Rattle.lift_tree.specs.Meaning.{World}
use Rattle.lift_tree.specs.Programs.{PlainProgram}
use Rattle.lift_tree.specs.Types.{PlainTy}
use Rattle.lift_tree.specs.Typing.{IsAdmissible, declared_by}
use Rattle.value_lists.specs.Lists.{list_lengths}
use Rattle.launch_file.specs.ResultLine.{result_line}
use Rattle.launch_file.specs.Stages.{Count, GivenInOrder, Shared}
use Rattle.program_source.specs.Program.{source_value}
use Rattle.compilation.specs.Sequence.{Outline}

-- the sizes and the inputs that all kernels share
abbrev pub world_in : Shared → World
world_in s = record { bases = s.bases; sizes = s.sizes; inputs = s.inputs }

-- a kernel's launch: its work-items, at these sizes
abbrev pub launch_at : (sizes : List ℕ) → Count → Launch
launch_at sizes c = record { global = c.global; local = c.local; sizes = sizes }

-- one launch for each kernel, which is admissible for the program
abbrev pub AreAdmissibleLaunches : PlainProgram → (bases : List ℕ) → List Outline → List Count
    → Type 0
AreAdmissibleLaunches p bases [] [] = Unit {0}
AreAdmissibleLaunches p bases (o ∷ os) (c ∷ cs) =
    IsAdmissibleLaunch (declared_by p).names o.asks bases c.global c.local
    × AreAdmissibleLaunches p bases os cs
AreAdmissibleLaunches p bases _ _ = ⊥

-- what is given to the kernels in order is admissible for the program
pub record AreAdmissibleFor (p : PlainProgram) (outlines : List Outline)
    (g : GivenInOrder) : Type 0 where
  pub world : IsAdmissible (declared_by p) (world_in g.shared)
  pub launches : AreAdmissibleLaunches p g.shared.bases outlines g.counts

-- A kernel's run: the kernel, the type of its output, and its launch; and what the run leaves in
-- the output's buffers, and how many events it has, so many of them releases.
pub record KernelRun : Type 0 where
  pub kernel : Kernel
  pub output : PlainTy
  pub launch : Launch
  pub left : List (List ℕ)
  pub events : ℕ
  pub releases : ℕ

-- these inputs in their buffers, the output's as long as its type says, and 0 in all other memory
abbrev pub begun_from : (ins : List (List ℕ)) → (bases : List ℕ) → PlainTy → Cells
begun_from ins bases output = record {
  ins = ins;
  outs = map (λ n. replicate n 0) (list_lengths bases output);
  rest = 0;
}

-- each kernel runs at its launch, under the schedule from its beginning: the first on these inputs,
-- each other on them and on all that those before it left
abbrev pub RunInTurn : Schedule → (bases : List ℕ) → (ins : List (List ℕ)) → List KernelRun
    → Type 0
RunInTurn schedule bases ins [] = Unit {0}
RunInTurn schedule bases ins (r ∷ rs) =
    EndsUnder schedule r.kernel r.launch (begun_from ins bases r.output) r.left r.events r.releases
    × RunInTurn schedule bases (ins ++ r.left) rs

-- these kernels, each with the output that its outline tells, run in turn, each at its work-items,
-- with so many events in all, so many of them releases; 64 bits hold each count, and at its
-- greatest value it stays
pub record AreRunInTurn (s : Shared) (ins : List (List ℕ)) (kernels : List Kernel)
    (outlines : List Outline) (counts : List Count) (events releases : ℕ) : Type 0 where
  pub runs : List KernelRun
  pub of_kernels : map (λ (r : KernelRun). r.kernel) runs ≡ kernels
  pub of_outputs : map (λ (r : KernelRun). r.output) runs ≡ map (λ (o : Outline). o.output) outlines
  pub of_launches : map (λ (r : KernelRun). r.launch) runs ≡ map (launch_at s.sizes) counts
  pub run : RunInTurn s.schedule s.bases ins runs
  pub counted : events ≡ capped (sum_by (λ (r : KernelRun). r.events) runs)
  pub released : releases ≡ capped (sum_by (λ (r : KernelRun). r.releases) runs)

-- The line is that of the source's value, and of the counts of all runs together: the text is that
-- of kernels, which are run in turn at what is given to them, the first on the program's inputs.
pub record IsSequenceLine (p : PlainProgram) (outlines : List Outline) (text : List ℕ)
    (g : GivenInOrder) (line : List ℕ) : Type 0 where
  pub kernels : List Kernel
  pub read : IsSequenceText text kernels
  pub events : ℕ
  pub releases : ℕ
  pub run : AreRunInTurn g.shared (buffers_of (declared_by p).inputs g.shared.inputs)
      kernels outlines g.counts events releases
  pub written : line
      ≡ result_line (source_value p (world_in g.shared)) (Some (events, releases))
