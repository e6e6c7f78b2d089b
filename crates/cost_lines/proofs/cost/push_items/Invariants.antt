use Rattle.std.proofs.Common.{◌≡◌, ◌-◌, ◌++◌}
use Rattle.cost_lines.specs.Costs.{numbers_in}
use Rattle.cost_lines.specs.Lines.{lines_from}
use Rattle.cost_lines.proofs.cost.push_items.Given as goal

abbrev pub invariant-loop-item : goal.invariant-loop-item
invariant-loop-item l = l.text.items ≡ l.fn.text.items ++ lines_from l.first (l.item - l.first) (numbers_in l.traffic)
