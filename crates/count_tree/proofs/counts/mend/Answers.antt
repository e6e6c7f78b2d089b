use Rattle.std.proofs.Common.{refl, arith}
use Rattle.count_tree.proofs.Mends.{mends_start, mends_on, mended, count_small, some_counted, is_on, recounted}
use Rattle.count_tree.proofs.counts.mend.Goals as goal

pub loop-node-init : goal.loop-node-init
loop-node-init c = mends_start c.args.flags.now c.args.place c.requires.place c.requires.bit c.args.lefts.now c.requires.counts

pub changed-requires-clause-more : goal.changed-requires-clause-more
changed-requires-clause-more c = λ on.
    let a = count_small c.args.flags.now c.args.place c.requires.place c.requires.bit c.loop-node.lefts c.loop-node.node c.loop-node.invariant c.loop-node-test.true in
    let b = c.requires.few in
    omega arith

pub changed-requires-clause-fewer : goal.changed-requires-clause-fewer
changed-requires-clause-fewer c = λ off.
    some_counted c.args.flags.now c.args.place c.requires.place c.requires.bit c.loop-node.lefts c.loop-node.node c.loop-node.invariant c.loop-node-test.true
    (is_on c.args.flags.now c.args.place c.requires.place c.requires.bit c.loop-node.lefts c.loop-node.node c.loop-node.invariant c.loop-node-test.true _ refl off)

pub loop-node-preserved : goal.loop-node-preserved
loop-node-preserved c =
    mends_on c.args.flags.now c.args.place c.requires.place c.requires.bit c.loop-node.lefts c.loop-node.node c.loop-node.invariant c.loop-node-test.true c.changed.result
    (recounted c.args.flags.now c.args.place c.requires.place c.requires.bit c.loop-node.lefts c.loop-node.node c.loop-node.invariant c.loop-node-test.true c.changed.result c.changed.ensures.more c.changed.ensures.fewer)

pub returns : goal.returns
returns c = mended c.args.flags.now c.args.place c.requires.place c.requires.bit c.loop-node.lefts c.loop-node.node c.loop-node.invariant c.loop-node-test.false
