use Rattle.std.proofs.Common.{◌+◌, ◌*◌, ◌/◌, ◌%◌, ◌<◌, arith}
use Rattle.enabled_events.proofs.Grids.{first_low}
use Rattle.enabled_events.proofs.grid.Grid.first_of.Goals as goal

pub overflow_mul-result : goal.overflow_mul-result
overflow_mul-result c =
    let r = c.args.self in
    let g = c.args.group in
    let low : (g % (r.global.0 / r.local.0)) * r.local.0 + ((g / (r.global.0 / r.local.0)) * r.local.1) * r.global.0 < 65536 = first_low r c.requires.small g c.requires.group in
    omega arith

pub overflow_add-result : goal.overflow_add-result
overflow_add-result c =
    let r = c.args.self in
    let g = c.args.group in
    let low : (g % (r.global.0 / r.local.0)) * r.local.0 + ((g / (r.global.0 / r.local.0)) * r.local.1) * r.global.0 < 65536 = first_low r c.requires.small g c.requires.group in
    omega arith
