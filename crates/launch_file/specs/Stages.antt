-- Launch files of several kernels in order: what such a file is and gives, and the checks in
-- their order.
use Rattle.std.specs.Prelude.{◌≡◌, ℕ, suc, ◌==◌, ◌&&◌, ◌⊎◌, Bool, true, IsTrue, List, [], ◌∷◌, Option, Some, None, option_and_then, Result, Ok, Err, codes, length, if◌then◌else◌}
use Rattle.std.specs.Option.{ok_or}
use Rattle.serde_json.specs.Data.{Data, Items, no_items, item, array}
use Rattle.serde_json.specs.Find.{get, as_array}
use Rattle.kernel_tree.specs.Schedule.{Schedule}
use Rattle.size_arith.specs.Ranges.{Admissible, sizes_at}
use Rattle.lift_tree.specs.Launches.{IsAdmissibleLaunch}
use Rattle.lift_tree.specs.Programs.{PlainProgram}
use Rattle.lift_tree.specs.Types.{HaveTypes}
use Rattle.lift_tree.specs.Typing.{declared_by}
use Rattle.lift_tree.specs.Values.{Value}
use Rattle.launch_file.specs.declared.refusal.Key.TheVariants as key
use Rattle.launch_file.specs.declared.refusal.LaunchNo.{LaunchNo}
use Rattle.launch_file.specs.declared.refusal.LaunchNo.TheVariants as no
use Rattle.launch_file.specs.Json.{IsJson, is_object, object_at, pair_at}
use Rattle.launch_file.specs.LaunchFile.{GivesInputs, GivesSizes, IsSchedule, PairAt, PlainAsk, asks_in}
use Rattle.launch_file.specs.Judged.{and_then, bases_of, demand, inputs_judged, items_judged, schedule_at, sizes_judged}

-- ---- what such a file is

-- what all kernels share
pub record Shared : Type 0 where
  pub sizes : List ℕ
  pub bases : List ℕ
  pub inputs : List Value
  pub schedule : Schedule

-- how many work-items of a kernel there are along each dimension, in all and in a group
pub record Count : Type 0 where
  pub global : ℕ × ℕ
  pub local : ℕ × ℕ

-- what such a file gives: once what all kernels share, and each kernel's work-items
pub record GivenInOrder : Type 0 where
  pub shared : Shared
  pub counts : List Count

-- the sizes, the inputs and the schedule that a file gives to all kernels
pub record GivesShared (p : PlainProgram) (d : Data) (s : Shared) : Type 0 where
  pub sizes : (e : Data) × (get (codes "sizes") d ≡ Some e) × IsTrue (is_object e)
      × GivesSizes p.sizes e s.sizes
  pub inputs : (e : Data) × (get (codes "inputs") d ≡ Some e) × IsTrue (is_object e)
      × GivesInputs p.inputs e s.inputs
  pub schedule : IsSchedule (get (codes "schedule") d) s.schedule
  pub bases : s.sizes ≡ sizes_at (declared_by p).names s.bases
  pub admissible : Admissible (declared_by p).names s.bases
  pub typed : HaveTypes s.bases (declared_by p).inputs s.inputs

-- a kernel's own object gives how many work-items it has, and these may run it
pub record GivesCount (p : PlainProgram) (s : Shared) (ask : PlainAsk) (own : Data)
    (c : Count) : Type 0 where
  pub object : IsTrue (is_object own)
  pub global : PairAt (codes "global") own c.global
  pub local : PairAt (codes "local") own c.local
  pub admissible : IsAdmissibleLaunch (declared_by p).names
      (asks_in ask) s.bases c.global c.local

-- one object a kernel, in order
abbrev pub GiveCounts : PlainProgram → Shared → List PlainAsk → List Data → List Count → Type 0
GiveCounts p s [] [] [] = Unit {0}
GiveCounts p s (ask ∷ asks) (own ∷ owns) (c ∷ cs) =
    GivesCount p s ask own c × GiveCounts p s asks owns cs
GiveCounts p s _ _ _ = ⊥

-- a list's members
abbrev pub members : Items → List Data
members no_items = []
members (item d ds) = d ∷ members ds

-- A value is a launch file of kernels in order, and this is what it gives.
pub record GivesAll (p : PlainProgram) (asks : List PlainAsk) (d : Data)
    (g : GivenInOrder) : Type 0 where
  pub object : IsTrue (is_object d)
  pub shared : GivesShared p d g.shared
  pub launches : (ds : Items) × (get (codes "launches") d ≡ Some (array ds))
      × GiveCounts p g.shared asks (members ds) g.counts

-- the bytes are a launch file of kernels in order
abbrev pub IsStagesFile : PlainProgram → List PlainAsk → List ℕ → GivenInOrder → Type 0
IsStagesFile p asks bytes g = (d : Data) × IsJson bytes d × GivesAll p asks d g

-- ---- the checks in their order

-- each value is an object
abbrev pub all_objects : List Data → Bool
all_objects [] = true
all_objects (d ∷ ds) = is_object d && all_objects ds

-- the kernels' own objects, where there are so many and no other
abbrev pub objects_in : (count : ℕ) → List Data → Option (List Data)
objects_in count ds = if (length ds == count) && all_objects ds then Some ds else None

-- the kernels' own objects in the list at their key
abbrev pub launches_at : (count : ℕ) → Data → Option (List Data)
launches_at count d =
    option_and_then (λ (ds : Items). objects_in count (members ds))
    (option_and_then as_array (get (codes "launches") d))

-- what stands at the keys
pub record StageKeys : Type 0 where
  pub launches : List Data
  pub sizes : Data
  pub inputs : Data
  pub schedule : Schedule

-- what stands at the keys, looked for in this order, for so many kernels
abbrev pub stage_keys_judged : (count : ℕ) → Data → Result StageKeys LaunchNo
stage_keys_judged count d =
    and_then (ok_or (launches_at count d) (no.Missing key.Launches)) (λ launches.
    and_then (ok_or (object_at (codes "sizes") d) (no.Missing key.Sizes)) (λ sizes.
    and_then (ok_or (object_at (codes "inputs") d) (no.Missing key.Inputs)) (λ inputs.
    and_then (schedule_at (get (codes "schedule") d)) (λ schedule.
    Ok (record { launches = launches; sizes = sizes; inputs = inputs; schedule = schedule })))))

-- how many work-items the k-th kernel has
abbrev pub stage_judged : (k : ℕ) → PlainAsk → Data → Result Count LaunchNo
stage_judged k ask d =
    and_then (ok_or (pair_at (codes "global") d) (no.Missing (key.GlobalOf k))) (λ global.
    and_then (ok_or (pair_at (codes "local") d) (no.Missing (key.LocalOf k))) (λ local.
    and_then (items_judged (asks_in ask) global local) (λ _. Ok (record { global = global; local = local }))))

-- those of each kernel in turn, of which the first is the k-th
abbrev pub stages_judged_from : (k : ℕ) → List PlainAsk → List Data → Result (List Count) LaunchNo
stages_judged_from k [] ds = Ok []
stages_judged_from k (ask ∷ asks) [] = Ok []
stages_judged_from k (ask ∷ asks) (d ∷ ds) =
    and_then (stage_judged k ask d) (λ c.
    and_then (stages_judged_from (suc k) asks ds) (λ cs. Ok (c ∷ cs)))

-- what all kernels share, as the checks find it
abbrev pub shared_given : PlainProgram → (sizes : List ℕ) → Schedule → (inputs : List Value)
    → Shared
shared_given p sizes schedule inputs =
    record { sizes = sizes; bases = bases_of p.sizes sizes; inputs = inputs; schedule = schedule }

-- what such a file gives, or the first check that it fails
abbrev pub stages_judged : PlainProgram → List PlainAsk → Data → Result GivenInOrder LaunchNo
stages_judged p asks d =
    and_then (demand (is_object d) no.NotJson) (λ _.
    and_then (stage_keys_judged (length asks) d) (λ at.
    and_then (sizes_judged 0 p.sizes at.sizes) (λ sizes.
    and_then (stages_judged_from 0 asks at.launches) (λ counts.
    and_then (inputs_judged sizes 0 p.inputs at.inputs) (λ inputs.
    Ok (record { shared = shared_given p sizes at.schedule inputs; counts = counts }))))))

-- what the bytes are refused for: they are no JSON, or their value fails this check first
abbrev pub RefusesStages : PlainProgram → List PlainAsk → List ℕ → LaunchNo → Type 0
RefusesStages p asks bytes e =
    (((d : Data) → ¬ IsJson bytes d) × (e ≡ no.NotJson))
    ⊎ ((d : Data) × IsJson bytes d × (stages_judged p asks d ≡ Err e))
