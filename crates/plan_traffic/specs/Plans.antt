-- The traffic that a plan tells at a launch.
use Rattle.std.specs.Prelude.{◌≡◌, ◌<◌, ℕ, List}
use Rattle.kernel_tree.specs.declared.events.Event.{Event}
use Rattle.kernel_tree.specs.Code.{Kernel}
use Rattle.kernel_tree.specs.Device.{State, device_of, IsStart, run, IsRun, IsStuck}
use Rattle.kernel_tree.specs.Launch.{Launch, Cells, item_count}
use Rattle.barrier_placement.specs.Fencing.{Fencing, Open, fence}
use Rattle.lift_tree.specs.Meaning.{World}
use Rattle.lift_tree.specs.Typing.{IsAdmissible}
use Rattle.lowered_tree.specs.Kinds.{asks_of}
use Rattle.lowered_tree.specs.Whole.{IsSoundTerm}
use Rattle.nest_premises.specs.Printable.{printer_for}
use Rattle.printed_form.specs.Programs.{AreBuffersOf, IsLaunchOf}
use Rattle.group_form.specs.Kernels.{AreNeededBy, PrintsBy}
use Rattle.phase_plan.specs.Plans.{declared_in, local_in, tree_in, types_in, IsTold}
use Rattle.phase_plan.specs.declared.kind.Kind.{Kind}
use Rattle.phase_plan.specs.declared.kind.Kind.TheVariants.{Task, OverLaunch, OverGroups, OverGrid}
use Rattle.phase_plan.specs.declared.planned.Plan.{Plan}
use Rattle.term_traffic.specs.Laws.{HasTraffic}
use Rattle.term_traffic.specs.Traffic.{ItemTraffic}
use Rattle.launch_lengths.specs.Bases.{bases_of}
use Rattle.item_traffic.specs.Counts.{held}
use Rattle.plan_traffic.specs.declared.traffic.Traffic.{Traffic}

-- the base names' values at a launch
abbrev pub bases_at : Plan → Launch → List ℕ
bases_at plan l = bases_of (declared_in plan).names l.sizes

-- the launch is admissible for the plan's term
abbrev pub IsLaunchFor : Plan → Launch → Type 0
IsLaunchFor plan l =
    IsLaunchOf (declared_in plan) (asks_of (local_in plan) (tree_in plan)) (bases_at plan l)
    (tree_in plan) (types_in plan) l

-- the numbers are these, each held
pub record IsHeld (n : ItemTraffic) (x : Traffic) : Type 0 where
  pub global_loads : x.global_loads ≡ held n.global_loads
  pub global_stores : x.global_stores ≡ held n.global_stores
  pub local_loads : x.local_loads ≡ held n.local_loads
  pub local_stores : x.local_stores ≡ held n.local_stores

-- the barriers that a plan places, before each phase and at the end: none, where no groups work
-- together
abbrev pub fence_of : Kind → ℕ → Fencing
fence_of Task = λ q. Open
fence_of OverLaunch = λ q. Open
fence_of (OverGroups phases) = fence phases.count phases.barriers.items
fence_of (OverGrid phases) = fence phases.count phases.barriers.items

-- at each admissible launch and on all inputs, every run that can't go on, of a kernel that is
-- printed for a plan's term, has the traffic that the plan tells
abbrev pub PlansTellTraffic : Type 0
PlansTellTraffic =
    (plan : Plan) → IsSoundTerm (declared_in plan) (tree_in plan) (types_in plan) → IsTold plan
    → (w : World) (l : Launch) (c : Cells) (k : Kernel) (s : State) (es : List Event) (item : ℕ)
    → IsAdmissible (declared_in plan) w
    → IsLaunchOf (declared_in plan) (asks_of (local_in plan) (tree_in plan)) w.bases
    (tree_in plan) (types_in plan) l
    → AreBuffersOf (declared_in plan) w (tree_in plan) (types_in plan) c
    → PrintsBy (printer_for (tree_in plan)) (declared_in plan) (local_in plan) w.bases
    (tree_in plan) (types_in plan) l k
    → IsStart k l c s → IsRun (device_of k l c) s es
    → IsStuck (device_of k l c) (run (device_of k l c) s es) → item < item_count l
    → HasTraffic (declared_in plan) w.bases (tree_in plan) (types_in plan) (fence_of plan.kind) k l
    c s es item

-- the barriers that a plan places are those that its term needs
abbrev pub PlansPlaceNeededBarriers : Type 0
PlansPlaceNeededBarriers =
    (plan : Plan) → IsTold plan
    → AreNeededBy (printer_for (tree_in plan)) (declared_in plan) (local_in plan)
    (fence_of plan.kind) (tree_in plan) (types_in plan)
