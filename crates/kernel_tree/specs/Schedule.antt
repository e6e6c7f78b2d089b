-- Schedules, and the run under a schedule.
use Rattle.std.specs.Prelude.{◌≡◌, ℕ, zero, suc, ◌+◌, ◌*◌, ◌/◌, ◌%◌, ◌^◌, List, [], ◌∷◌, ◌++◌, Option, Some, length, map, slice_get, slice_index, ◌⊎◌}
use Rattle.std.specs.List.Sorted.{IsStrictlyIncreasing}
use Rattle.kernel_tree.specs.declared.events.Event.{Event}
use Rattle.kernel_tree.specs.declared.events.Event.TheVariants.{Step, Release}
use Rattle.kernel_tree.specs.declared.events.FaultKind.{FaultKind}
use Rattle.kernel_tree.specs.declared.launches.Schedule as held
use Rattle.kernel_tree.specs.declared.launches.Schedule.TheVariants as held_form
use Rattle.kernel_tree.specs.Launch.{Launch, first_item}
use Rattle.kernel_tree.specs.Device.{Device, State, Enabled, after, run, IsStuck}
use Rattle.kernel_tree.specs.Faults.{Among, FaultIs, Run}

-- a list of numbers, or the seed of a generator of numbers
pub data Schedule : Type 0 where
  Numbers : List ℕ → Schedule
  Seed : ℕ → Schedule

-- the schedule that the program holds
abbrev pub schedule_of : held.Schedule → Schedule
schedule_of (held_form.Numbers ns) = Numbers ns.items
schedule_of (held_form.Seed x) = Seed x

-- always the first enabled event
abbrev pub in_order : Schedule
in_order = Numbers []

-- the generator's state after n events
abbrev pub generated : ℕ → ℕ → ℕ
generated x zero = x
generated x (suc n) = (1664525 * generated x n + 1013904223) % 2 ^ 32

-- a schedule's number for the event that comes after n others; 0 once a list is used up
abbrev pub number_at : Schedule → ℕ → ℕ
number_at (Numbers ns) n = slice_index ns n
number_at (Seed x) n = generated x (suc n) / 65536

-- where an event stands in the order of the items: a release at its group's first item
abbrev pub place_of : Launch → Event → ℕ
place_of l (Step k) = k
place_of l (Release g) = first_item l g

-- the enabled events in the order of the items
pub record AreEnabled (d : Device) (s : State) (es : List Event) : Type 0 where
  pub enabled : (e : Event) → Among e es → Enabled d s e
  pub all : (e : Event) → Enabled d s e → Among e es
  pub ordered : IsStrictlyIncreasing (map (place_of d.launch) es)

-- of these enabled events the one that the schedule takes after n others
abbrev pub choose_event : Schedule → ℕ → List Event → Option Event
choose_event schedule n es = slice_get es (number_at schedule n % length es)

-- the schedule takes this event after n others
abbrev pub Chooses : Schedule → ℕ → Device → State → Event → Type 0
Chooses schedule n d s e =
    (es : List Event) × AreEnabled d s es × (choose_event schedule n es ≡ Some e)

-- each event is the schedule's choice, the first of them after n others
abbrev pub Follows : Schedule → ℕ → Device → State → List Event → Type 0
Follows schedule n d s [] = Unit {0}
Follows schedule n d s (e ∷ es) =
    Chooses schedule n d s e × Follows schedule (suc n) d (after d s e) es

-- the last event is a fault
abbrev pub EndsInFault : Device → State → List Event → Type 0
EndsInFault d s es =
    (front : List Event) × (last : Event) × (f : FaultKind) × (es ≡ front ++ last ∷ [])
    × FaultIs d s front last (Some f)

-- the run under a schedule: it goes on until no event is enabled or a fault
pub record ScheduledRun (schedule : Schedule) (d : Device) (s : State) (es : List Event)
    : Type 0 where
  pub is_run : Run d s es
  pub follows : Follows schedule 0 d s es
  pub over : IsStuck d (run d s es) ⊎ EndsInFault d s es
