use Rattle.std.proofs.Common.{◌≡◌, ◌∙◌, replicate, false, ap, sym, subst, arith}
use Rattle.kernel_tree.specs.Launch.{item_count, group_count}
use Rattle.enabled_events.specs.Flags.{CountSteps}
use Rattle.enabled_events.specs.Grids.{laid}
use Rattle.enabled_events.proofs.Counts.{none_set}
use Rattle.enabled_events.proofs.Steps.{none_counted}
use Rattle.enabled_events.proofs.ready.Ready.new.Goals as goal

pub invariant_of-result : goal.invariant_of-result
invariant_of-result c =
    let grid = c.args.grid in
    let n = item_count (laid grid) in
    let m = group_count (laid grid) in
    let count : c.item_count-items.result ≡ item_count (laid grid) = c.item_count-items.ensures in
    let groups_are : c.group_count-groups.result ≡ group_count (laid grid) = c.group_count-groups.ensures in
    let most = c.max.ensures in
    let items = c.in_ok-vec.ensures.items_if_clones_equal (λ y e. e) ∙ ap (λ z. replicate z false) count in
    let groups = c.in_ok-vec-2.ensures.items_if_clones_equal (λ y e. e) ∙ ap (λ z. replicate z false) groups_are in
    let counts = c.in_ok-vec-3.ensures.items_if_clones_equal (λ y e. e) ∙ ap (λ z. replicate z 0) groups_are in (
      none_set grid _ _ c.in_ok-new.field-0 c.requires items groups c.in_ok-new.ensures.none c.max.result (omega arith) (omega arith) (λ some. omega arith) c.in_ok-new.ensures.room,
      subst (CountSteps grid c.in_ok-vec.field-0.items c.in_ok-vec-2.field-0.items) (sym counts) (subst (λ z. CountSteps grid c.in_ok-vec.field-0.items z (replicate m 0)) (sym groups) (subst (λ z. CountSteps grid z (replicate m false) (replicate m 0)) (sym items) (none_counted grid n m))),
    )
