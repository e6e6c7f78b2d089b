use Rattle.barrier_placement.proofs.Parts.{neither, parts_of}
use Rattle.barrier_placement.proofs.placing.barrier_between.Goals as goal

pub returns-in_err-pair : goal.returns-in_err-pair
returns-in_err-pair c = rw c.from_residual.ensures (neither c.args.touches.now c.args.earlier c.args.later c.conflict-on_local.result c.conflict-on_global.result c.in_err-pair.ensures c.conflict-on_local.ensures c.conflict-on_global.ensures)

pub returns : goal.returns
returns c = parts_of c.args.touches.now c.args.earlier c.args.later c.args.before c.conflict-on_local.result c.conflict-on_global.result c.is_some.result c.is_some-2.result c.in_ok-pair.pair c.is_some.ensures c.is_some-2.ensures c.in_ok-pair.ensures c.conflict-on_local.ensures c.conflict-on_global.ensures
