use Rattle.std.proofs.Common.{◌*◌, ◌<◌, arith}
use Rattle.output_owner.proofs.Rows.{moved_words, moves}
use Rattle.output_owner.proofs.walk.moved.Goals as goal

pub returns-then-column-eq0 : goal.returns-then-column-eq0
returns-then-column-eq0 c h few =
    let some : 0 < c.args.n * c.args.scalar = (moves c.args.n c.args.m c.args.scalar c.args.number h).column in
    let none = c.if-column-eq0.true in
    absurd (omega arith)

pub returns : goal.returns
returns c h few = moved_words c.args.n c.args.m c.args.scalar c.args.number h few
