-- Launch files.
use Rattle.std.specs.Prelude.{◌≡◌, ◌<◌, ◌^◌, ◌⊎◌, ℕ, List, [], ◌∷◌, false, Option, Some, None, codes, map, IsTrue}
use Rattle.lift_tree.specs.Lists.{Every}
use Rattle.serde_json.specs.Data.{Data, array}
use Rattle.serde_json.specs.Find.{get}
use Rattle.kernel_tree.specs.Launch.{Launch}
use Rattle.kernel_tree.specs.Schedule.{Schedule, Numbers, Seed, in_order, schedule_of}
use Rattle.size_arith.specs.Ranges.{sizes_at}
use Rattle.lift_tree.specs.declared.program.Size.{Size}
use Rattle.lift_tree.specs.FixedSizes.{asked}
use Rattle.lift_tree.specs.Launches.{Asks, IsAdmissibleLaunch}
use Rattle.lift_tree.specs.Programs.{PlainInput, PlainProgram}
use Rattle.lift_tree.specs.Types.{HaveTypes}
use Rattle.lift_tree.specs.Typing.{declared_by}
use Rattle.lift_tree.specs.Values.{Value, value_of}
use Rattle.lift_tree.specs.WorkedOut.{worked_out}
use Rattle.launch_file.specs.declared.file.Ask.{Ask}
use Rattle.launch_file.specs.declared.file.Ask.TheVariants as ask
use Rattle.launch_file.specs.declared.file.LaunchFile as held
use Rattle.launch_file.specs.Json.{IsJson, is_object, number_data, items_data, data_of}

-- what a launch file is read for: to run a kernel that asks for this of its launches, to evaluate
-- the program, or to tell what a run of such a kernel costs
pub data PlainAsk : Type 0 where
  Run : Asks → PlainAsk
  Eval : PlainAsk
  Cost : Asks → PlainAsk

-- as code holds it
abbrev pub ask_of : Ask → PlainAsk
ask_of (ask.Run asks) = Run (asked asks)
ask_of ask.Eval = Eval
ask_of (ask.Cost asks) = Cost (asked asks)

-- what a launch file gives: the launch, the values of the base names, the
-- inputs in order, and the schedule
pub record Given : Type 0 where
  pub launch : Launch
  pub bases : List ℕ
  pub inputs : List Value
  pub schedule : Schedule

-- what a launch file gives, as code holds it
abbrev pub given_by : held.LaunchFile → Given
given_by f = record {
  launch = f.launch;
  bases = f.sizes;
  inputs = map value_of f.inputs.items;
  schedule = schedule_of f.schedule;
}

-- what is asked of the launch; of an evaluation's nothing
abbrev pub asks_in : PlainAsk → Asks
asks_in (Run asks) = asks
asks_in (Cost asks) = asks
asks_in Eval = record { alone = false; flat = false; local = None }

-- the whole number stands at the key
abbrev pub StandsAt : List ℕ → Data → ℕ → Type 0
StandsAt key d n = get key d ≡ Some (number_data n)

-- a value is two whole numbers: a list of both, or the first alone, where the second is 1
abbrev pub IsPair : Data → ℕ × ℕ → Type 0
IsPair d p = (d ≡ array (items_data (p.0 ∷ p.1 ∷ []))) ⊎ ((d ≡ number_data p.0) × (p.1 ≡ 1))

-- two whole numbers stand at the key
abbrev pub PairAt : List ℕ → Data → ℕ × ℕ → Type 0
PairAt key d p = (e : Data) × (get key d ≡ Some e) × IsPair e p

-- the work-items along each dimension, in all and in a group; an evaluation has one
abbrev pub GivesItems : PlainAsk → Data → Launch → Type 0
GivesItems (Run asks) d l = PairAt (codes "global") d l.global × PairAt (codes "local") d l.local
GivesItems (Cost asks) d l = PairAt (codes "global") d l.global × PairAt (codes "local") d l.local
GivesItems Eval d l = (l.global ≡ (1, 1)) × (l.local ≡ (1, 1))

-- each declared size stands at its name
abbrev pub GivesSizes : List Size → Data → List ℕ → Type 0
GivesSizes [] d [] = Unit {0}
GivesSizes (s ∷ ss) d (n ∷ ns) = StandsAt s.name d n × GivesSizes ss d ns
GivesSizes _ d _ = ⊥

-- each input stands at its name
abbrev pub GivesInputs : List PlainInput → Data → List Value → Type 0
GivesInputs [] d [] = Unit {0}
GivesInputs (i ∷ is) d (v ∷ vs) = (get i.name d ≡ Some (data_of v)) × GivesInputs is d vs
GivesInputs _ d _ = ⊥

-- the schedule is a list of numbers, or an object with a seed
abbrev pub IsScheduleData : Data → Schedule → Type 0
IsScheduleData d (Numbers ns) = (d ≡ array (items_data ns)) × Every (λ n. n < 2 ^ 32) ns
IsScheduleData d (Seed x) = StandsAt (codes "seed") d x × (x < 2 ^ 32)

-- one that isn't there is the empty list
abbrev pub IsSchedule : Option Data → Schedule → Type 0
IsSchedule None s = s ≡ in_order
IsSchedule (Some d) s = IsScheduleData d s

-- an evaluation and a cost have the empty list
abbrev pub GivesSchedule : PlainAsk → Data → Schedule → Type 0
GivesSchedule (Run asks) d s = IsSchedule (get (codes "schedule") d) s
GivesSchedule Eval d s = s ≡ in_order
GivesSchedule (Cost asks) d s = s ≡ in_order

-- the inputs that are read: for a cost none
abbrev pub asked_inputs : PlainAsk → List PlainInput → List PlainInput
asked_inputs (Run asks) is = is
asked_inputs Eval is = is
asked_inputs (Cost asks) is = []

-- the object that they stand in
abbrev pub HoldsInputs : PlainAsk → Data → Data → Type 0
HoldsInputs (Run asks) d e = (get (codes "inputs") d ≡ Some e) × IsTrue (is_object e)
HoldsInputs Eval d e = (get (codes "inputs") d ≡ Some e) × IsTrue (is_object e)
HoldsInputs (Cost asks) d e = d ≡ e

-- A value is a launch file of the program, and this is what it gives: an admissible
-- launch, and inputs of their types.
pub record Gives (p : PlainProgram) (ask : PlainAsk) (d : Data) (g : Given) : Type 0 where
  pub object : IsTrue (is_object d)
  pub items : GivesItems ask d g.launch
  pub sizes : (e : Data) × (get (codes "sizes") d ≡ Some e) × IsTrue (is_object e)
      × GivesSizes p.sizes e g.launch.sizes
  pub inputs : (e : Data) × HoldsInputs ask d e
      × GivesInputs (asked_inputs ask p.inputs) e g.inputs
  pub schedule : GivesSchedule ask d g.schedule
  pub bases : g.launch.sizes ≡ sizes_at (declared_by p).names g.bases
  pub admissible : IsAdmissibleLaunch (declared_by p).names
      (asks_in ask) g.bases g.launch.global g.launch.local
  pub typed : HaveTypes g.bases
      (map (λ i. worked_out (declared_by p).names i.ty) (asked_inputs ask p.inputs)) g.inputs

-- the bytes are a launch file of the program
abbrev pub IsLaunchFile : PlainProgram → PlainAsk → List ℕ → Given → Type 0
IsLaunchFile p ask bytes g = (d : Data) × IsJson bytes d × Gives p ask d g
