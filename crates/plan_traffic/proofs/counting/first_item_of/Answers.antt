use Rattle.std.proofs.Common.{◌*◌, ◌/◌, ◌<◌, ◌^◌, subst, sym, arith}
use Rattle.kernel_tree.specs.Launch.{Launch}
use Rattle.plan_traffic.proofs.Groups.{first_small}
use Rattle.plan_traffic.proofs.counting.first_item_of.Goals as goal

pub overflow_mul-row : goal.overflow_mul-row
overflow_mul-row c =
    let small = subst (λ (x : Launch). c.args.group / (x.global.0 / x.local.0) * x.local.1 < 2 ^ 32) (sym c.launch.view_is) (first_small c.args.launch.now c.args.group c.requires.whole c.requires.few c.requires.within).3 in
    record { fits = omega arith }

pub overflow_mul-result : goal.overflow_mul-result
overflow_mul-result c =
    let small = subst (λ (x : Launch). c.args.group / (x.global.0 / x.local.0) * x.local.1 * x.global.0 < 2 ^ 32) (sym c.launch.view_is) (first_small c.args.launch.now c.args.group c.requires.whole c.requires.few c.requires.within).4 in
    record { fits = omega arith }
