use Rattle.std.proofs.Common.{◌≡◌, true, false}
use Rattle.scalar_ops.specs.Operators.{apply_op}
use Rattle.lift_tree.specs.Values.{value_of}
use Rattle.pattern_value.specs.Shut.{is_more}
use Rattle.pattern_value.proofs.ByLanes.{right_result}
use Rattle.pattern_value.proofs.lanes.operated.Goals as goal

pub returns-in_ok-lanes-2 : goal.returns-in_ok-lanes-2
returns-in_ok-lanes-2 c =
    let h : is_more (value_of c.args.v.now) ≡ false = cc (c.has_members.ensures, c.if-has_members.false) in
    let k : is_more (value_of c.args.u.now) ≡ true = cc (c.has_members-else-has_members.ensures, c.if-has_members-3.true) in
    right_result (apply_op c.args.op) c.args.v.now c.args.u.now c.in_ok-lanes-2.lanes c.members_of-then-has_members-3.result.now c.by_lanes-then-has_members-3.result h k c.members_of-then-has_members-3.ensures c.in_ok-lanes-2.ensures c.by_lanes-then-has_members-3.ensures
