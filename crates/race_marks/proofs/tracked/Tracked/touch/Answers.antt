use Rattle.std.proofs.Common.{◌∙◌, sym, arith}
use Rattle.race_marks.proofs.Laid.{within, told_within}
use Rattle.race_marks.proofs.tracked.Tracked.touch.Goals as goal

pub touch-requires-clause-cell : goal.touch-requires-clause-cell
touch-requires-clause-cell c =
    let v = c.self.inside.rows in
    let told = told_within v c.args.row c.args.home c.args.index c.in-Some.place (sym c.in-Some.is ∙ c.place.ensures) in
    let lt = within v c.args.row c.args.home c.args.index told.0 in
    let e = c.self.invariant in
    let p = told.1 in
    omega arith
