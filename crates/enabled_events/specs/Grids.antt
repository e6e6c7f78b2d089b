-- How the items of a launch lie in groups, whatever its sizes are.
use Rattle.std.specs.Prelude.{◌≤◌, []}
use Rattle.kernel_tree.specs.Launch.{Launch, IsWhole, item_count, group_size}
use Rattle.enabled_events.specs.declared.grid.Grid.{Grid}

-- the launch of a grid, without sizes
abbrev pub laid : Grid → Launch
laid grid = record { global = grid.global; local = grid.local; sizes = [] }

-- the grid of a launch, without its sizes
abbrev pub grid_of : Launch → Grid
grid_of l = record { global = l.global; local = l.local }

-- few items, in whole groups
pub record IsSmall (grid : Grid) : Type 0 where
  pub whole : IsWhole (laid grid)
  pub few : item_count (laid grid) ≤ 65536
  pub few_in_group : group_size (laid grid) ≤ 65536
