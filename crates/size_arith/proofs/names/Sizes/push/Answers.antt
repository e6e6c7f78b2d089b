use Rattle.std.proofs.Common.{arith}
use Rattle.std.proofs.Math.Nat.{div-le_self}
use Rattle.size_arith.proofs.Ranges.{AllUpTo-push}
use Rattle.size_arith.proofs.names.Sizes.push.Goals as goal

pub invariant_of-self-2 : goal.invariant_of-self-2
invariant_of-self-2 c =
    let q = div-le_self c.args.size c.args.name.multiple in
    rw c.in_ok-push.ensures.items (AllUpTo-push 1048576 _ _ c.self.invariant (let t = c.requires in omega arith))
