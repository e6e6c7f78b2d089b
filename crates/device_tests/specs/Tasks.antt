-- Launches that a device takes.
use Rattle.std.specs.Prelude.{◌≤◌}
use Rattle.kernel_tree.specs.Launch.{Launch, IsWhole, group_size, item_count}

-- few work-items, in whole groups of few
pub record AreWhole (l : Launch) : Type 0 where
  pub whole : IsWhole l
  pub small_groups : group_size l ≤ 256
  pub few_items : item_count l ≤ 65536
