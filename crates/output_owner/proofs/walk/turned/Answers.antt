use Rattle.std.proofs.Common.{◌<◌, arith}
use Rattle.output_owner.proofs.Rows.{turned_words, turns}
use Rattle.output_owner.proofs.walk.turned.Goals as goal

pub returns-then-scalar-eq0 : goal.returns-then-scalar-eq0
returns-then-scalar-eq0 c h few =
    let some : 0 < c.args.scalar = (turns c.args.n c.args.scalar c.args.number h).scalar in
    let none = c.if-scalar-eq0.true in
    absurd (omega arith)

pub returns : goal.returns
returns c h few = rw (c.saturating_sub-element.ensures, c.saturating_sub.ensures) (turned_words c.args.n c.args.scalar c.args.number h few)
