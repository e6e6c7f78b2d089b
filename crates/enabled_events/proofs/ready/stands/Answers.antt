use Rattle.std.proofs.Common.{◌<◌, arith}
use Rattle.kernel_tree.specs.Launch.{item_count, group_count, group_of}
use Rattle.kernel_tree.proofs.Grouping.{group_in_launch}
use Rattle.enabled_events.specs.Grids.{laid}
use Rattle.enabled_events.proofs.ready.stands.Goals as goal

pub first_of-requires-clause-group : goal.first_of-requires-clause-group
first_of-requires-clause-group c =
    let place : c.args.place < item_count (laid c.args.grid) = let n = c.requires.items in let lt = c.requires.place in omega arith in
    let inside : group_of (laid c.args.grid) c.args.place < group_count (laid c.args.grid) = group_in_launch (laid c.args.grid) c.requires.small.whole c.args.place place in
    let own = c.group_of-group.ensures in
    omega arith

pub bounds-groups-group : goal.bounds-groups-group
bounds-groups-group c =
    let place : c.args.place < item_count (laid c.args.grid) = let n = c.requires.items in let lt = c.requires.place in omega arith in
    let inside : group_of (laid c.args.grid) c.args.place < group_count (laid c.args.grid) = group_in_launch (laid c.args.grid) c.requires.small.whole c.args.place place in
    let own = c.group_of-group.ensures in
    let count = c.requires.groups in
    omega arith
