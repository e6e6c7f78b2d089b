use Rattle.std.proofs.Common.{◌≡◌}
use Rattle.item_traffic.specs.Counts.{held}
use Rattle.cost_lines.specs.Costs.{releases_at}
use Rattle.cost_lines.specs.Lines.{sum_to}
use Rattle.cost_lines.proofs.cost.all_releases.Given as goal

abbrev pub invariant-loop-group : goal.invariant-loop-group
invariant-loop-group l = l.all ≡ held (sum_to (releases_at l.plan l.launch) l.group)
