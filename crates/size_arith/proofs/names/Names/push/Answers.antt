use Rattle.std.proofs.Common.{length, length-append, arith, ap, ◌≡◌}
use Rattle.size_arith.proofs.Ranges.{AreNames-push}
use Rattle.size_arith.proofs.names.Names.push.Goals as goal

pub invariant_of-self-2 : goal.invariant_of-self-2
invariant_of-self-2 c =
    rw c.in_ok-push.ensures.items (
      let e : length c.self.inside.names.items ≡ length c.args.self.now = ap length c.self.view_is in let r = c.requires.room in simp length-append (omega arith),
      AreNames-push _ _ c.self.invariant.1 c.requires.declared,
    )
