use Rattle.std.proofs.Common.{subst, ⊎_elim, arith}
use Rattle.lift_ir.specs.AtLaunch.{length_at}
use Rattle.lowering.specs.Terms.{term_of}
use Rattle.lowering.specs.declared.term.Fold.{Fold}
use Rattle.lowering.specs.declared.term.Term.{Term}
use Rattle.launch_lengths.specs.Bases.{bases_of}
use Rattle.item_traffic.proofs.SameTraffic.{ManyAlike}
use Rattle.item_traffic.proofs.counts.Count.+alike.Goals as goal

pub alike-returns-in-Fold-clause-alike : goal.alike-returns-in-Fold-clause-alike
alike-returns-in-Fold-clause-alike t c =
    rw c.in-Fold.is (subst (λ (f : Fold). ManyAlike (length_at (bases_of c.args.self.now.names.now c.args.self.now.launch.now.sizes)) c.args.self.now.launch.now c.args.self.now.item c.alike.result (term_of f.array)) c.deref-in-Fold.ensures c.alike.ensures.alike)

pub alike-returns-in-First-clause-alike : goal.alike-returns-in-First-clause-alike
alike-returns-in-First-clause-alike t c =
    let h = subst (λ (u : Term). ManyAlike (length_at (bases_of c.args.self.now.names.now c.args.self.now.launch.now.sizes)) c.args.self.now.launch.now c.args.self.now.item c.alike-in-First.result (term_of u)) c.deref-in-First.ensures c.alike-in-First.ensures.alike in
    ⊎_elim (λ e. rw e h) (λ r. ⊎_elim (λ e. rw e h) (λ s. ⊎_elim (λ e. rw e.1 h) (λ u. ⊎_elim (λ e. rw e.2 h) (λ e. rw e.2 h) u) s) r) c.in-First.is

pub alike-returns-in-Pair-clause-alike : goal.alike-returns-in-Pair-clause-alike
alike-returns-in-Pair-clause-alike t c =
    let a = subst (λ (u : Term). ManyAlike (length_at (bases_of c.args.self.now.names.now c.args.self.now.launch.now.sizes)) c.args.self.now.launch.now c.args.self.now.item c.alike-first.result (term_of u)) c.deref-in-Pair.ensures c.alike-first.ensures.alike in
    let b = subst (λ (u : Term). ManyAlike (length_at (bases_of c.args.self.now.names.now c.args.self.now.launch.now.sizes)) c.args.self.now.launch.now c.args.self.now.item c.alike-second.result (term_of u)) c.deref-in-Pair-2.ensures c.alike-second.ensures.alike in
    let e = c.min.ensures in
    ⊎_elim (λ q. rw q (λ k lt. (a k (omega arith), b k (omega arith)))) (λ r. ⊎_elim (λ q. rw q (λ k lt. (a k (omega arith), b k (omega arith)))) (λ q. rw q (λ k lt. (a k (omega arith), b k (omega arith)))) r) c.in-Pair.is

pub map_alike-returns-clause-alike : goal.map_alike-returns-clause-alike
map_alike-returns-clause-alike t c =
    let e = c.min.ensures in
    let f = c.min-2.ensures in
    λ k lt. (c.turns_alike-turns.ensures.alike k (omega arith), c.alike-array.ensures.alike k (omega arith), c.alike-body.ensures.alike k (omega arith))
