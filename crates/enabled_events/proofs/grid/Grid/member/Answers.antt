use Rattle.std.proofs.Common.{◌+◌, ◌*◌, ◌/◌, ◌%◌, ◌<◌, arith}
use Rattle.kernel_tree.specs.Launch.{first_item}
use Rattle.enabled_events.specs.Grids.{laid}
use Rattle.enabled_events.proofs.Grids.{member_low}
use Rattle.enabled_events.proofs.grid.Grid.member.Goals as goal

pub overflow_mul-result : goal.overflow_mul-result
overflow_mul-result c =
    let r = c.args.self in
    let j = c.args.number in
    let low : first_item (laid r) c.args.group + ((j % r.local.0) + (j / r.local.0) * r.global.0) < 65536 = member_low r c.requires.small c.args.group j c.requires.group c.requires.number in
    omega arith

pub overflow_add-result : goal.overflow_add-result
overflow_add-result c =
    let r = c.args.self in
    let j = c.args.number in
    let low : first_item (laid r) c.args.group + ((j % r.local.0) + (j / r.local.0) * r.global.0) < 65536 = member_low r c.requires.small c.args.group j c.requires.group c.requires.number in
    omega arith

pub overflow_add-result-2 : goal.overflow_add-result-2
overflow_add-result-2 c =
    let r = c.args.self in
    let j = c.args.number in
    let low : first_item (laid r) c.args.group + ((j % r.local.0) + (j / r.local.0) * r.global.0) < 65536 = member_low r c.requires.small c.args.group j c.requires.group c.requires.number in
    let first = c.first_of.ensures in
    omega arith
