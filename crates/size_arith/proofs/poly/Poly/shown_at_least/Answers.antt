use Rattle.std.proofs.Common.{IsTrue, ◌↔◌, subst, rules}
use Rattle.size_arith.specs.Polynomial.{IsPoly}
use Rattle.size_arith.specs.Shown.{ShownAtLeast}
use Rattle.size_arith.proofs.Soundness.{shown_at_least}
use Rattle.size_arith.proofs.Decisions.{shown_is}
use Rattle.size_arith.proofs.poly.Poly.shown_at_least.Goals as goal

pub returns-clause-test : goal.returns-clause-test
returns-clause-test c =
    let e : IsTrue c.is_at_least.result ↔ ShownAtLeast c.args.k c.args.names.now c.args.self.now = search rules in
    let p : IsPoly c.args.self.now = subst IsPoly c.self.view_is c.self.invariant in
    shown_is c.is_at_least.result c.args.k c.args.names.now c.args.self.now p e

pub returns-clause-sound : goal.returns-clause-sound
returns-clause-sound c =
    let e : IsTrue c.is_at_least.result ↔ ShownAtLeast c.args.k c.args.names.now c.args.self.now = search rules in
    λ t ys h. shown_at_least c.args.names.now ys c.as_slice.ensures.declared h c.args.k c.args.self.now (e.0 t)
