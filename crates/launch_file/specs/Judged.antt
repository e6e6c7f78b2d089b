-- The checks of a launch file in their order: what it gives, or the first check that it fails.
use Rattle.std.specs.Prelude.{◌≡◌, ℕ, suc, ◌*◌, ◌/◌, ◌%◌, ◌==◌, ◌&&◌, ◌||◌, not, ◌⊎◌, Bool, true, false, IsTrue, nat_le, List, [], ◌∷◌, Option, Some, None, option_map, option_and_then, Result, Ok, Err, codes}
use Rattle.std.specs.Option.{ok_or}
use Rattle.serde_json.specs.Data.{Data, Items}
use Rattle.serde_json.specs.Find.{get, as_array}
use Rattle.kernel_tree.specs.Schedule.{Schedule, Numbers, Seed, in_order}
use Rattle.lift_tree.specs.declared.program.Size.{Size}
use Rattle.lift_tree.specs.Launches.{Asks}
use Rattle.lift_tree.specs.Programs.{PlainInput, PlainProgram}
use Rattle.lift_tree.specs.Values.{Value}
use Rattle.launch_file.specs.declared.refusal.Key.TheVariants as key
use Rattle.launch_file.specs.declared.refusal.LaunchNo.{LaunchNo}
use Rattle.launch_file.specs.declared.refusal.LaunchNo.TheVariants as no
use Rattle.launch_file.specs.Json.{IsJson, is_object, whole_at, object_at, pair_at, word_in, words_in}
use Rattle.launch_file.specs.Inputs.{read_value}
use Rattle.launch_file.specs.LaunchFile.{Given, PlainAsk, Run, Eval, Cost, asked_inputs, asks_in}

-- one check after another: the first that fails says why
abbrev pub and_then : {A B E : Type 0} → Result A E → (A → Result B E) → Result B E
and_then (Ok a) f = f a
and_then (Err e) f = Err e

-- the check passes, or fails for this cause
abbrev pub demand : Bool → LaunchNo → Result (Unit {0}) LaunchNo
demand true e = Ok tt
demand false e = Err e

-- ---- the keys
-- a list of numbers, or what isn't one by its seed
abbrev pub schedule_from : Option Items → Option ℕ → Option Schedule
schedule_from (Some ds) seed = option_map Numbers (words_in ds)
schedule_from None seed = option_map Seed seed

-- the schedule that a value is: a list of numbers, or an object with a seed
abbrev pub schedule_in : Data → Option Schedule
schedule_in d = schedule_from (as_array d) (option_and_then word_in (get (codes "seed") d))

-- the schedule at its key; work-items go in order where there is none
abbrev pub schedule_at : Option Data → Result Schedule LaunchNo
schedule_at None = Ok in_order
schedule_at (Some d) = ok_or (schedule_in d) (no.Missing key.Schedule)

-- the schedule of a file; an evaluation and a cost have none to read
abbrev pub schedule_judged : PlainAsk → Data → Result Schedule LaunchNo
schedule_judged (Run asks) d = schedule_at (get (codes "schedule") d)
schedule_judged Eval d = Ok in_order
schedule_judged (Cost asks) d = Ok in_order

-- how many work-items there are along each dimension, in all or in a group; an evaluation has one
abbrev pub count_judged : PlainAsk → List ℕ → LaunchNo → Data → Result (ℕ × ℕ) LaunchNo
count_judged (Run asks) name missing d = ok_or (pair_at name d) missing
count_judged (Cost asks) name missing d = ok_or (pair_at name d) missing
count_judged Eval name missing d = Ok (1, 1)

-- the object of the inputs; a cost has none to read
abbrev pub holder_judged : PlainAsk → Data → Result Data LaunchNo
holder_judged (Run asks) d =
    ok_or (object_at (codes "inputs") d) (no.Missing key.Inputs)
holder_judged Eval d = ok_or (object_at (codes "inputs") d) (no.Missing key.Inputs)
holder_judged (Cost asks) d = Ok d

-- what stands at the keys
pub record Keyed : Type 0 where
  pub global : ℕ × ℕ
  pub local : ℕ × ℕ
  pub sizes : Data
  pub inputs : Data
  pub schedule : Schedule

-- what stands at the keys, looked for in this order
abbrev pub keys_judged : PlainAsk → Data → Result Keyed LaunchNo
keys_judged ask d =
    and_then (count_judged ask (codes "global") (no.Missing key.Global) d) (λ global.
    and_then (count_judged ask (codes "local") (no.Missing key.Local) d) (λ local.
    and_then (ok_or (object_at (codes "sizes") d) (no.Missing key.Sizes)) (λ sizes.
    and_then (holder_judged ask d) (λ inputs.
    and_then (schedule_judged ask d) (λ schedule.
    Ok (record {
      global = global;
      local = local;
      sizes = sizes;
      inputs = inputs;
      schedule = schedule;
    }))))))

-- ---- the sizes

-- a size is a multiple of what is declared, within its bounds
abbrev pub is_in_range : Size → ℕ → Bool
is_in_range s n = nat_le s.from n && (nat_le n s.to && (n % s.multiple == 0))

-- the size of this number
abbrev pub size_judged : ℕ → Size → Data → Result ℕ LaunchNo
size_judged i s d =
    and_then (ok_or (whole_at s.name d) (no.Missing (key.SizeAt i))) (λ n.
    and_then (demand (is_in_range s n) (no.Size i n)) (λ _. Ok n))

-- the sizes in turn, of which the first has this number
abbrev pub sizes_judged : ℕ → List Size → Data → Result (List ℕ) LaunchNo
sizes_judged i [] d = Ok []
sizes_judged i (s ∷ ss) d =
    and_then (size_judged i s d) (λ n. and_then (sizes_judged (suc i) ss d) (λ ns. Ok (n ∷ ns)))

-- the values of their base names
abbrev pub bases_of : List Size → List ℕ → List ℕ
bases_of [] ns = []
bases_of (s ∷ ss) [] = []
bases_of (s ∷ ss) (n ∷ ns) = n / s.multiple ∷ bases_of ss ns

-- each lies in its range
abbrev pub AreInRange : List Size → List ℕ → Type 0
AreInRange [] [] = Unit {0}
AreInRange (s ∷ ss) (n ∷ ns) = IsTrue (is_in_range s n) × AreInRange ss ns
AreInRange _ _ = ⊥

-- sizes that lie in the ranges of their declarations
pub record AllInRange (sizes : List Size) (given : List ℕ) : Type 0 where
  pub each : AreInRange sizes given

-- ---- the work-items

-- along each dimension at least one work-item, and no more than this in all
abbrev pub is_size : (most : ℕ) → ℕ × ℕ → Bool
is_size most s = nat_le 1 s.0 && (nat_le 1 s.1 && nat_le (s.0 * s.1) most)

-- 1 to 256 work-items a group, and 1 to 65536 in all, in whole groups along each dimension
abbrev pub is_grouped : (global local : ℕ × ℕ) → Bool
is_grouped global local =
    is_size 256 local
    && (is_size 65536 global && ((global.0 % local.0 == 0) && (global.1 % local.1 == 0)))

-- a group has the size that is asked for, where one is
abbrev pub is_asked_size : Option (ℕ × ℕ) → (local : ℕ × ℕ) → Bool
is_asked_size (Some size) local = (local.0 == size.0) && (local.1 == size.1)
is_asked_size None local = true

-- a term without a parallel map is run by one work-item
abbrev pub is_enough : Asks → (global : ℕ × ℕ) → Bool
is_enough asks global = not asks.alone || (global.0 * global.1 == 1)

-- one without a parallel map along dimension 1 by one row
abbrev pub is_flat : Asks → (global : ℕ × ℕ) → Bool
is_flat asks global = not asks.flat || (global.1 == 1)

-- whole groups, of the size that is asked for, and one work-item or one row where no more are
-- needed
abbrev pub items_judged : Asks → (global local : ℕ × ℕ) → Result (Unit {0}) LaunchNo
items_judged asks global local =
    and_then (demand (is_grouped global local && is_asked_size asks.local local)
    (no.Local global local)) (λ _.
    and_then (demand (is_enough asks global) (no.NotTask global)) (λ _.
    demand (is_flat asks global) (no.NotFlat global.1)))

-- ---- the inputs

-- the input of this number
abbrev pub input_judged : List ℕ → ℕ → PlainInput → Data → Result Value LaunchNo
input_judged sizes i x d =
    and_then (ok_or (get x.name d) (no.Missing (key.InputAt i)))
    (λ e. ok_or (read_value sizes x.ty e) (no.Shape i))

-- the inputs in turn, of which the first has this number
abbrev pub inputs_judged : List ℕ → ℕ → List PlainInput → Data → Result (List Value) LaunchNo
inputs_judged sizes i [] d = Ok []
inputs_judged sizes i (x ∷ xs) d =
    and_then (input_judged sizes i x d)
    (λ v. and_then (inputs_judged sizes (suc i) xs d) (λ vs. Ok (v ∷ vs)))

-- ---- the whole

-- what a launch file gives, or the first check that it fails
abbrev pub judged : PlainProgram → PlainAsk → Data → Result Given LaunchNo
judged p ask d =
    and_then (demand (is_object d) no.NotJson) (λ _.
    and_then (keys_judged ask d) (λ at.
    and_then (sizes_judged 0 p.sizes at.sizes) (λ sizes.
    and_then (items_judged (asks_in ask) at.global at.local) (λ _.
    and_then (inputs_judged sizes 0 (asked_inputs ask p.inputs) at.inputs) (λ inputs.
    Ok (record {
      launch = record { global = at.global; local = at.local; sizes = sizes };
      bases = bases_of p.sizes sizes;
      inputs = inputs;
      schedule = at.schedule;
    }))))))

-- what the bytes are refused for: they are no JSON, or their value fails this check first
abbrev pub Refuses : PlainProgram → PlainAsk → List ℕ → LaunchNo → Type 0
Refuses p ask bytes e =
    (((d : Data) → ¬ IsJson bytes d) × (e ≡ no.NotJson))
    ⊎ ((d : Data) × IsJson bytes d × (judged p ask d ≡ Err e))
