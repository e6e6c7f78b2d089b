use Rattle.std.proofs.Common.{sym, subst, refl}
use Rattle.race_marks.specs.Rows.{AreLaid}
use Rattle.race_marks.proofs.Laid.{laid_on}
use Rattle.race_marks.proofs.rows.Rows.push.Goals as goal

pub invariant_of-self-2 : goal.invariant_of-self-2
invariant_of-self-2 c =
    let r = c.self.inside in
    subst (λ rows. AreLaid r.homes rows c.in-Some.width) (sym c.in_ok-push.ensures.items)
    (laid_on r.homes r.rows.items r.width (record { start = r.width; length = c.args.length }) c.in-Some.width c.self.invariant refl (c.width_with.ensures c.in-Some.width c.in-Some.is))
