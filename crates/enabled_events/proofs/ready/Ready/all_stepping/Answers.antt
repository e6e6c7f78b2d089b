use Rattle.std.proofs.Common.{◌≡◌, ◌∙◌, ◌-◌, ◌++◌, length, replicate, true, false, ap, sym, subst}
use Rattle.kernel_tree.specs.Launch.{item_count, group_count, group_size}
use Rattle.count_tree.specs.Nodes.{HasRoom}
use Rattle.enabled_events.specs.Flags.{Counted, CountSteps}
use Rattle.enabled_events.specs.Grids.{laid}
use Rattle.enabled_events.proofs.Starts.{all_set, all_step}
use Rattle.enabled_events.proofs.ready.Ready.all_stepping.Goals as goal

pub invariant_of-result : goal.invariant_of-result
invariant_of-result c =
    let grid = c.args.grid in
    let n = item_count (laid grid) in
    let m = group_count (laid grid) in
    let size = group_size (laid grid) in
    let places = c.in_ok-filled.field-0 in
    let count : c.item_count-items.result ≡ item_count (laid grid) = c.item_count-items.ensures in
    let groups_are : c.group_count-groups.result ≡ group_count (laid grid) = c.group_count-groups.ensures in
    let size_is : c.group_size.result ≡ group_size (laid grid) = c.group_size.ensures in
    let items = c.in_ok-vec.ensures.items_if_clones_equal (λ y e. e) ∙ ap (λ z. replicate z true) count in
    let groups = c.in_ok-vec-2.ensures.items_if_clones_equal (λ y e. e) ∙ ap (λ z. replicate z false) groups_are in
    let counts = c.in_ok-vec-3.ensures.items_if_clones_equal (λ y e. e) ∙ ap (λ z. replicate z c.group_size.result) groups_are ∙ ap (replicate m) size_is in
    let flags = subst (λ z. places ≡ replicate z 1 ++ replicate (length places - z) 0) count c.in_ok-filled.ensures.flags in
    let room = subst (λ z. HasRoom z (length places)) count c.in_ok-filled.ensures.room in (
      subst (λ z. Counted grid z c.in_ok-vec-2.field-0.items places) (sym items) (subst (λ z. Counted grid (replicate n true) z places) (sym groups) (all_set grid c.requires places flags room)),
      subst (CountSteps grid c.in_ok-vec.field-0.items c.in_ok-vec-2.field-0.items) (sym counts) (subst (λ z. CountSteps grid c.in_ok-vec.field-0.items z (replicate m size)) (sym groups) (subst (λ z. CountSteps grid z (replicate m false) (replicate m size)) (sym items) (all_step grid c.requires))),
    )
