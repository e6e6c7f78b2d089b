use Rattle.std.proofs.Common.{◌≡◌, ◌-◌, ◌≤◌}
use Rattle.cost_lines.specs.Costs.{traffic_at, numbers_in}
use Rattle.cost_lines.specs.Lines.{held_traffic, lines_if, sum_traffic}
use Rattle.cost_lines.proofs.cost.add_items.Given as goal

abbrev pub invariant-loop-item : goal.invariant-loop-item
invariant-loop-item l =
    (l.text.items ≡ lines_if l.items (traffic_at l.plan l.launch) l.item)
    × (numbers_in l.all ≡ held_traffic (sum_traffic (traffic_at l.plan l.launch) l.item)) × (l.item ≤ l.count)

abbrev pub decreases-loop-item : goal.decreases-loop-item
decreases-loop-item l = l.count - l.item
