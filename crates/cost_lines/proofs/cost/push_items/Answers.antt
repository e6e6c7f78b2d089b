use Rattle.cost_lines.specs.Costs.{numbers_in}
use Rattle.cost_lines.proofs.Sums.{line_further}
use Rattle.cost_lines.proofs.cost.push_items.Goals as goal

pub loop-item-preserved : goal.loop-item-preserved
loop-item-preserved c = line_further c.args.first c.loop-item.item (numbers_in c.args.traffic) c.args.text.now.items c.loop-item.text.items c.push_item.new.text.items c.loop-item.auto.item c.loop-item.invariant c.in_ok-push_item.ensures
