use Rattle.std.proofs.Common.{◌∙◌}
use Rattle.cost_lines.proofs.Sums.{three}
use Rattle.cost_lines.proofs.lines.push_cost.Goals as goal

pub returns : goal.returns
returns c = c.in_ok-push-2.ensures.items ∙ three c.args.text.now.items _ _ _ _ _ c.in_ok-push_traffic.ensures c.in_ok-push.ensures
