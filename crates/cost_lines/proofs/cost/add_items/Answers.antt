use Rattle.std.proofs.Common.{◌≡◌, ◌+◌, ◌-◌, ◌*◌, ◌≤◌, ◌++◌, refl, sym, ap, ◌∙◌, subst, arith}
use Rattle.kernel_tree.specs.Launch.{Launch}
use Rattle.cost_lines.specs.Costs.{traffic_at, numbers_in}
use Rattle.cost_lines.specs.Lines.{held_traffic, lines_from, times_traffic}
use Rattle.cost_lines.proofs.Sums.{counted, sums_on, with_lines, without_lines}
use Rattle.cost_lines.proofs.cost.add_items.Goals.{then-items+in_ok-push_items, else-items}
use Rattle.cost_lines.proofs.cost.add_items.Goals as goal

pub loop-item-preserved : goal.loop-item-preserved
loop-item-preserved c =
    let f = traffic_at c.args.plan.now c.args.launch.now in
    let k = c.loop-item.item in
    let r = c.items_alike.result in
    let x = numbers_in c.traffic-counted.result in
    let here = counted (traffic_at c.args.plan.now c.args.launch.now c.loop-item.item) c.traffic-counted.result c.traffic-counted.ensures in
    let e : c.loop-item.item + c.items_alike.result - c.loop-item.item ≡ c.items_alike.result = omega arith in (
      elim c.if-items.branch [
        | then-items+in_ok-push_items w ↦ ap (λ t. t.items) w.text-is ∙ with_lines f k c.args.items r (k + r) c.loop-item.text.items _ x refl c.items_alike.ensures.alike w.if-items.true c.loop-item.invariant.0 here
            (w.in_ok-push_items.ensures ∙ ap (λ z. c.loop-item.text.items ++ lines_from c.loop-item.item z (numbers_in c.traffic-counted.result)) e)
        | else-items w ↦ ap (λ t. t.items) w.text-is ∙ without_lines f k c.args.items (k + r) c.loop-item.text.items w.if-items.false c.loop-item.invariant.0
      ],
      sums_on f k r (k + r) (numbers_in c.loop-item.all) x (numbers_in c.times.result) (numbers_in c.both-all.result) refl c.items_alike.ensures.alike c.loop-item.invariant.1 here
          (c.times.ensures ∙ ap (λ z. held_traffic (times_traffic (numbers_in c.traffic-counted.result) z)) e) c.both-all.ensures,
      subst (λ (z : Launch). c.loop-item.item + c.items_alike.result ≤ z.global.0 * z.global.1) (sym c.launch.view_is) c.items_alike.ensures.few,
    )
