use Rattle.std.proofs.Common.{ap, length, arith}
use Rattle.pattern_value.proofs.ByLanes.{no_members, some_members}
use Rattle.pattern_value.proofs.lanes.has_members.Goals as goal

pub returns-in-empty : goal.returns-in-empty
returns-in-empty c =
    let e = ap length c.as_slice.ensures.value in
    let h = c.in-empty.len_below in
    no_members c.args.v.now c.in-List.xs c.in-List.is (omega arith)

pub returns-in-len1-up : goal.returns-in-len1-up
returns-in-len1-up c =
    let e = ap length c.as_slice.ensures.value in
    let h = c.in-len1-up.len_at_least in
    some_members c.args.v.now c.in-List.xs c.in-List.is (omega arith)
