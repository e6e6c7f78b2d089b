use Rattle.std.proofs.Common.{◌≡◌, ◌-◌, length, refl, subst, arith}
use Rattle.count_tree.specs.Nodes.{AreCounts}
use Rattle.count_tree.proofs.Sums.{ones}
use Rattle.count_tree.proofs.Fills.{fills_start, fills_on, filled, some, whole, some_nodes}
use Rattle.count_tree.proofs.counts.count_up.Goals as goal

pub loop-level-init : goal.loop-level-init
loop-level-init c = fills_start c.args.lefts.now c.args.flagged c.requires.power

pub count_level-requires-clause-leaves : goal.count_level-requires-clause-leaves
count_level-requires-clause-leaves c = whole c.loop-level.lefts c.args.flagged c.loop-level.level c.loop-level.width c.loop-level.invariant c.loop-level-test.true

pub count_level-requires-clause-some : goal.count_level-requires-clause-some
count_level-requires-clause-some c = some c.loop-level.lefts c.args.flagged c.loop-level.level c.loop-level.width c.loop-level.invariant c.loop-level-test.true

pub loop-level-smaller : goal.loop-level-smaller
loop-level-smaller c =
    let a = some_nodes c.loop-level.lefts c.args.flagged c.loop-level.level c.loop-level.width c.loop-level.invariant in
    let b = c.loop-level-test.true in
    let e = c.loop-level.auto.lefts in
    omega arith

pub loop-level-preserved : goal.loop-level-preserved
loop-level-preserved c = fills_on c.loop-level.lefts c.args.flagged c.loop-level.level c.loop-level.width c.loop-level.invariant c.loop-level-test.true c.count_level.new.lefts _ refl c.count_level.ensures.long c.count_level.ensures.each c.count_level.ensures.kept

pub returns : goal.returns
returns c =
    let e : length c.loop-level.lefts ≡ length c.args.lefts.now = c.loop-level.auto.lefts in
    subst (λ n. AreCounts (ones c.args.flagged (n - c.args.flagged)) c.loop-level.lefts) e
    (filled c.loop-level.lefts c.args.flagged c.loop-level.level c.loop-level.width c.loop-level.invariant c.loop-level-test.false (let w = c.requires.within in omega arith))
