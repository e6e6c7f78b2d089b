use Rattle.std.proofs.Common.{ap, ◌∙◌, arith}
use Rattle.scalar_ops.specs.Operators.{apply_op}
use Rattle.pattern_value.specs.Shut.{lane}
use Rattle.lift_tree.specs.Values.{array, members, value_of}
use Rattle.pattern_value.proofs.ByLanes.{zip_done}
use Rattle.pattern_value.proofs.lanes.by_lanes.Goals as goal

pub returns : goal.returns
returns c =
    let xs = c.members_of-xs in
    let ys = c.members_of-ys in
    c.list.ensures
    ∙ ap array (c.loop-index.invariant ∙ zip_done (lane (apply_op c.args.op)) xs.result.now ys.result.now (members (value_of c.args.v.now)) (members (value_of c.args.u.now)) c.loop-index.index xs.ensures ys.ensures (omega (arith, c.min-index-end.ensures, c.loop-index-test.false)))
