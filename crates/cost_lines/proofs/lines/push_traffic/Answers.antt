use Rattle.std.proofs.Common.{◌≡◌, OnOk, subst}
use Rattle.cost_lines.proofs.Sums.{four}
use Rattle.cost_lines.proofs.lines.push_traffic.Goals as goal

pub returns : goal.returns
returns c = subst (λ t. OnOk c.push-4.result (c.push-4.new.text.items ≡ t)) (four c.args.text.now.items _ _ _ _ _ _ _ c.in_ok-push.ensures c.in_ok-push-2.ensures c.in_ok-push-3.ensures) c.push-4.ensures
