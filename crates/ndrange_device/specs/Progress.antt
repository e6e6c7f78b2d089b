-- How far a run along a schedule has come.
use Rattle.std.specs.Prelude.{◌≡◌, ℕ, List, Option, None, length, count_by, option_map}
use Rattle.kernel_tree.specs.declared.events.Event.{Event}
use Rattle.kernel_tree.specs.declared.events.Event.TheVariants.{Step, Release}
use Rattle.kernel_tree.specs.declared.events.Fault.{Fault}
use Rattle.kernel_tree.specs.Schedule.{Schedule, Numbers, Seed, generated}
use Rattle.ndrange_device.specs.declared.outcome.FaultFound.{FaultFound}
use Rattle.ndrange_device.specs.declared.progress.Progress.{Progress}
use Rattle.ndrange_device.specs.Outcomes.{capped, is_release}

-- what the generator begins with; a list has none
abbrev pub seed_of : Schedule → ℕ
seed_of (Numbers ns) = 0
seed_of (Seed x) = x

-- after these events
pub record HasCome (schedule : Schedule) (es : List Event) (p : Progress) : Type 0 where
  pub events : p.events ≡ capped (length es)
  pub releases : p.releases ≡ capped (count_by is_release es)
  pub generator : p.generator ≡ generated (seed_of schedule) (length es)

-- the fault of the event of this number, which is a step, if it has one
abbrev pub found_of : Event → Option Fault → (number : ℕ) → Option FaultFound
found_of (Step k) fault number =
    option_map (λ f. record { kind = f.kind; event = number; item = k; cell = f.cell }) fault
found_of (Release g) fault number = None
