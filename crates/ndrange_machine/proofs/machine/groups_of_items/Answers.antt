use Rattle.std.proofs.Common.{◌<◌, arith}
use Rattle.kernel_tree.specs.Launch.{item_count}
use Rattle.enabled_events.specs.Grids.{laid}
use Rattle.ndrange_machine.proofs.Grids.{group_low, more_groups}
use Rattle.ndrange_machine.proofs.machine.groups_of_items.Goals as goal

pub loop-item-preserved : goal.loop-item-preserved
loop-item-preserved c = more_groups c.args.grid c.loop-item.item c.group_of.result c.loop-item.groups.items c.push.new.self.items c.loop-item.invariant c.group_of.ensures c.in_ok-push.ensures.items

pub overflow_cast-group_of : goal.overflow_cast-group_of
overflow_cast-group_of c =
    let count = c.item_count-item-end.ensures in
    let test = c.loop-item-test.true in
    let below : c.loop-item.item < item_count (laid c.args.grid) = omega arith in
    let own = c.group_of.ensures in
    let low = group_low c.args.grid c.requires c.loop-item.item below in
    omega arith
