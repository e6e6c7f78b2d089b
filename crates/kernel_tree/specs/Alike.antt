-- Runs as the items' histories tell them, whatever the kernel.
use Rattle.std.specs.Prelude.{◌≡◌, ℕ, ◌<◌, ◌≤◌, suc, count_by, Bool, true, false, List, [], ◌∷◌, ◌++◌, ◌==◌, ◌&&◌, if◌then◌else◌}
use Rattle.kernel_tree.specs.declared.events.Event.{Event}
use Rattle.kernel_tree.specs.declared.events.Event.TheVariants.{Step, Release}
use Rattle.kernel_tree.specs.declared.events.Seen.{Seen}
use Rattle.kernel_tree.specs.Code.{Kernel}
use Rattle.kernel_tree.specs.Launch.{Launch, Cells, item_count, group_count, group_of, first_item}
use Rattle.kernel_tree.specs.Device.{Device, device_of, Cell, Fence, is_flagged, State, IsStart, moves, after, run, IsRun, IsStuck}
use Rattle.kernel_tree.specs.Faults.{Access, Among, accesses_of, accesses, IsFaultless}
use Rattle.kernel_tree.specs.EveryRun.{Completes}
use Rattle.kernel_tree.specs.Deeds.{deed_access}
use Rattle.kernel_tree.specs.Histories.{Act, Did, Past, history, is_access, touches, is_past, is_release, SomeAccess, sum_to}
use Rattle.kernel_tree.specs.Schedule.{Schedule, ScheduledRun}
use Rattle.kernel_tree.specs.Seen.{IsSeen}

-- what each item has still to do
abbrev pub Histories : Type 0
Histories = ℕ → List Act

-- next comes a deed
abbrev pub DeedNext : List Act → Type 0
DeedNext (Did a ∷ h) = Unit {0}
DeedNext (Past a b ∷ h) = ⊥
DeedNext [] = ⊥

-- next comes a barrier
abbrev pub BarrierNext : List Act → Type 0
BarrierNext (Past a b ∷ h) = Unit {0}
BarrierNext (Did deed ∷ h) = ⊥
BarrierNext [] = ⊥

-- an event that histories allow: a step where a deed comes next, a release where all items of the
-- group have a barrier next
abbrev pub Allows : Launch → Histories → Event → Type 0
Allows l h (Step k) = (k < item_count l) × DeedNext (h k)
Allows l h (Release g) = (g < group_count l) × ((j : ℕ) → group_of l j ≡ g → BarrierNext (h j))

-- what comes after the first act
abbrev pub but_first : List Act → List Act
but_first [] = []
but_first (a ∷ h) = h

-- what is left of histories after an event
abbrev pub left : Launch → Event → Histories → Histories
left l e h k = if moves l e k then but_first (h k) else h k

-- whether a barrier with the flag comes next
abbrev pub next_flag : List Act → Fence → Bool
next_flag (Past a b ∷ h) f = is_flagged a b f
next_flag (Did deed ∷ h) f = false
next_flag [] f = false

-- each group's epochs after an event
abbrev pub epochs_left : Launch → Event → Histories → (ℕ → Fence → ℕ) → ℕ → Fence → ℕ
epochs_left l (Step k) h epochs g f = epochs g f
epochs_left l (Release x) h epochs g f =
    if (g == x) && next_flag (h (first_item l x)) f then suc (epochs g f) else epochs g f

-- each event is allowed in its turn
abbrev pub Plays : Launch → Histories → List Event → Type 0
Plays l h [] = Unit {0}
Plays l h (e ∷ es) = Allows l h e × Plays l (left l e h) es

-- the access that the next act makes, if any
abbrev pub next_access : (group item : ℕ) → (Fence → ℕ) → List Act → List Access
next_access g k epochs (Did a ∷ h) = deed_access g k epochs a
next_access g k epochs (Past a b ∷ h) = []
next_access g k epochs [] = []

-- the accesses that histories tell of an event, from these epochs
abbrev pub told_of : Launch → Histories → (ℕ → Fence → ℕ) → Event → List Access
told_of l h epochs (Step k) = next_access (group_of l k) k (epochs (group_of l k)) (h k)
told_of l h epochs (Release g) = []

-- the accesses that they tell of each event in turn
abbrev pub told : Launch → Histories → (ℕ → Fence → ℕ) → List Event → List (List Access)
told l h epochs [] = []
told l h epochs (e ∷ es) = told_of l h epochs e ∷ told l (left l e h) (epochs_left l e h epochs) es

-- the accesses of each event of a run in turn
abbrev pub each_access : Device → State → List Event → List (List Access)
each_access d s [] = []
each_access d s (e ∷ es) = accesses_of d s e ∷ each_access d (after d s e) es

-- in some complete run from the state, without a failure and without a race, these are the items'
-- histories
pub record Enacts (d : Device) (s : State) (h : Histories) : Type 0 where
  pub events : List Event
  pub completes : Completes d s events
  pub acts : (k : ℕ) → k < item_count d.launch → history d s events k ≡ h k

-- the runs from the state are what the histories allow, with the accesses that they tell, and
-- nothing else is asked of the kernel
pub record AsHistories (d : Device) (s : State) (h : Histories) : Type 0 where
  pub allowed : (es : List Event) → IsRun d s es → Plays d.launch h es
  pub is_run : (es : List Event) → Plays d.launch h es → IsRun d s es
  pub each : (es : List Event) → IsRun d s es → each_access d s es ≡ told d.launch h s.epochs es

-- what is counted in every run, unfinished ones too: an item's accesses for which a test holds,
-- told their cell and whether they write, and a group's releases, are at most those of its history,
-- and as many in a run that cannot go on; so of all items together. Each access is one of its
-- item's history
pub record CountsAs (d : Device) (s : State) (h : Histories) : Type 0 where
  pub at_most : (es : List Event) → IsRun d s es → (k : ℕ) → k < item_count d.launch
      → (p : Cell → Bool → Bool)
      → count_by (λ a. (a.item == k) && p a.cell a.writes) (accesses d s es)
      ≤ count_by (is_access p) (touches (h k))
  pub in_all : (es : List Event) → IsRun d s es → IsStuck d (run d s es) → (k : ℕ)
      → k < item_count d.launch → (p : Cell → Bool → Bool)
      → count_by (λ a. (a.item == k) && p a.cell a.writes) (accesses d s es)
      ≡ count_by (is_access p) (touches (h k))
  pub total_at_most : (es : List Event) → IsRun d s es → (p : Cell → Bool → Bool)
      → count_by (λ a. p a.cell a.writes) (accesses d s es)
      ≤ sum_to (λ k. count_by (is_access p) (touches (h k))) (item_count d.launch)
  pub total_in_all : (es : List Event) → IsRun d s es → IsStuck d (run d s es)
      → (p : Cell → Bool → Bool)
      → count_by (λ a. p a.cell a.writes) (accesses d s es)
      ≡ sum_to (λ k. count_by (is_access p) (touches (h k))) (item_count d.launch)
  pub by_item : (es : List Event) → IsRun d s es → (a : Access) → Among a (accesses d s es)
      → (a.item < item_count d.launch)
      × ((p : Cell → Bool → Bool) → p a.cell a.writes ≡ true → SomeAccess p (touches (h a.item)))
  pub releases_at_most : (es : List Event) → IsRun d s es → (g : ℕ) → g < group_count d.launch
      → count_by (is_release g) es ≤ count_by is_past (h (first_item d.launch g))
  pub releases_in_all : (es : List Event) → IsRun d s es → IsStuck d (run d s es) → (g : ℕ)
      → g < group_count d.launch
      → count_by (is_release g) es ≡ count_by is_past (h (first_item d.launch g))

-- each run from s is one from t, event by event with the same accesses, and without a fault in both
pub record GoesAlike (c : Device) (s : State) (d : Device) (t : State) : Type 0 where
  pub is_run : (es : List Event) → IsRun c s es → IsRun d t es
  pub faultless : (es : List Event) → IsRun c s es → IsFaultless c s es × IsFaultless d t es
  pub each : (es : List Event) → IsRun c s es → each_access d t es ≡ each_access c s es
  pub all : (es : List Event) → IsRun c s es → accesses d t es ≡ accesses c s es
  pub stuck : (es : List Event) → IsRun c s es → IsStuck c (run c s es) → IsStuck d (run d t es)
  pub seen : (es : List Event) (e : Event) (x : Seen) → IsRun c s (es ++ e ∷ []) → IsSeen c s es e x
      → IsSeen d t es e x
  pub scheduled : (schedule : Schedule) (es : List Event) → ScheduledRun schedule c s es
      → ScheduledRun schedule d t es
  pub one_schedule : (schedule : Schedule) (es fs : List Event) → ScheduledRun schedule c s es
      → ScheduledRun schedule d t fs → (fs ≡ es) × (each_access d t fs ≡ each_access c s es)

-- what a kernel owes: from every state in which it may begin its items have these histories
abbrev pub KernelEnacts : Kernel → Launch → Cells → Histories → Type 0
KernelEnacts k l c h = (s : State) → IsStart k l c s → Enacts (device_of k l c) s h

-- two kernels at one launch go alike, wherever each may begin
abbrev pub KernelsAlike : (k m : Kernel) → Launch → Cells → Type 0
KernelsAlike k m l c =
    (s t : State) → IsStart k l c s → IsStart m l c t
    → GoesAlike (device_of k l c) s (device_of m l c) t
