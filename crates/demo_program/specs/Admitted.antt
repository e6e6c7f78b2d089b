-- The demo's launch is admissible for its program.
use Rattle.std.specs.Prelude.{ℕ}
use Rattle.lift_tree.specs.Launches.{IsAdmissibleLaunch}
use Rattle.lift_tree.specs.Typing.{IsAdmissible, declared_by}
use Rattle.launch_file.specs.LaunchFile.{Given}
use Rattle.demo_program.specs.Accepted.{demo_asks, demo_program}
use Rattle.demo_program.specs.Data.{demo_given}

-- the sizes and inputs that are given are the program's, and the launch is as it is asked for
pub record MayRun (g : Given) : Type 0 where
  pub world : IsAdmissible (declared_by demo_program)
      (record { bases = g.bases; sizes = g.launch.sizes; inputs = g.inputs })
  pub launch : IsAdmissibleLaunch (declared_by demo_program).names
      demo_asks g.bases g.launch.global g.launch.local

-- whatever the seed, the demo's data may be run
abbrev pub DemosMayRun : Type 0
DemosMayRun = (seed : ℕ) → MayRun (demo_given seed)
