-- How many work-items a local size has, along a row and from row to row, and what is asked of a
-- launch, as code holds them.
use Rattle.std.specs.Prelude.{ℕ, Option, option_map}
use Rattle.lift_tree.specs.declared.asks.Asks as held
use Rattle.lift_tree.specs.declared.local_size.LocalSize.{LocalSize}
use Rattle.lift_tree.specs.Launches.{Asks}

-- how many work-items a row of a group has, and how many rows, where a size is fixed
abbrev pub size_fixed : Option LocalSize → Option (ℕ × ℕ)
size_fixed = option_map (λ (size : LocalSize). (size.across, size.down))

-- what is asked of a launch, as code holds it
abbrev pub asked : held.Asks → Asks
asked asks = record { alone = asks.alone; flat = asks.flat; local = size_fixed asks.local }
