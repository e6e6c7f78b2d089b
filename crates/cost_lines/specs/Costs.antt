-- The cost of a plan at a launch.
use Rattle.std.specs.Prelude.{ℕ}
use Rattle.kernel_tree.specs.Launch.{Launch, first_item, ids_of}
use Rattle.lift_ir.specs.AtLaunch.{length_at}
use Rattle.lowering.specs.Terms.{term_of}
use Rattle.phase_plan.specs.declared.planned.Plan.{Plan}
use Rattle.term_traffic.specs.Traffic.{ItemTraffic, releases_of, traffic_of}
use Rattle.plan_traffic.specs.Plans.{bases_at, fence_of}
use Rattle.plan_traffic.specs.declared.traffic.Traffic.{Traffic}

-- what an item loads and stores
abbrev pub traffic_at : Plan → Launch → (item : ℕ) → ItemTraffic
traffic_at plan l item =
    traffic_of (length_at (bases_at plan l)) (ids_of l item) (term_of plan.root)

-- how often a group is released, as its first item is
abbrev pub releases_at : Plan → Launch → (group : ℕ) → ℕ
releases_at plan l group =
    releases_of (length_at (bases_at plan l)) (ids_of l (first_item l group))
    (fence_of plan.kind) (term_of plan.root)

-- the numbers as the Rust code holds them
abbrev pub numbers_in : Traffic → ItemTraffic
numbers_in x = record {
  global_loads = x.global_loads;
  global_stores = x.global_stores;
  local_loads = x.local_loads;
  local_stores = x.local_stores;
}
