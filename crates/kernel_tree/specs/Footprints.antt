-- Reorderings of a run that keep each actor's own order.
use Rattle.std.specs.Prelude.{◌≡◌, ◌≢◌, ℕ, true, List, map, ◌==◌, filter}
use Rattle.kernel_tree.specs.declared.events.Event.{Event}
use Rattle.kernel_tree.specs.declared.events.Event.TheVariants.{Step, Release}
use Rattle.kernel_tree.specs.Launch.{Launch, group_of}
use Rattle.kernel_tree.specs.Device.{Device, State, run, IsRun}
use Rattle.kernel_tree.specs.Faults.{Access, Among, IsFaultless}

-- the group whose event it is
abbrev pub group_acting : Launch → Event → ℕ
group_acting l (Step k) = group_of l k
group_acting l (Release g) = g

-- each group's own events come in the same order
abbrev pub KeepsGroups : Launch → List Event → List Event → Type 0
KeepsGroups l es fs =
    (g : ℕ) → filter (λ e. group_acting l e == g) fs ≡ filter (λ e. group_acting l e == g) es

-- a run of steps alone is a list of items: each item comes as often
abbrev pub KeepsItems : List ℕ → List ℕ → Type 0
KeepsItems ks js = (k : ℕ) → filter (λ j. j == k) js ≡ filter (λ j. j == k) ks

-- a step of each of these items in turn
abbrev pub steps : List ℕ → List Event
steps ks = map Step ks

-- no actor writes a cell that another accesses
abbrev pub LeavesOthers : (Access → ℕ) → List Access → Type 0
LeavesOthers actor all =
    (a b : Access) → Among a all → Among b all → actor a ≢ actor b → a.cell ≡ b.cell
    → a.writes ≡ true → ⊥

-- fs is a run without a fault to the state to which es leads
pub record LeadsAlike (d : Device) (s : State) (es fs : List Event) : Type 0 where
  pub is_run : IsRun d s fs
  pub faultless : IsFaultless d s fs
  pub ends : run d s fs ≡ run d s es
