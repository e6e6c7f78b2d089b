use Rattle.std.proofs.Common.{length-set, arith}
use Rattle.size_arith.specs.Ranges.{greatests}
use Rattle.size_arith.proofs.Ranges.{greatests-at, length-greatests, set_taken, take_to_end}
use Rattle.size_arith.proofs.shown.greatests_of.Goals as goal

pub loop-i-preserved : goal.loop-i-preserved
loop-i-preserved c =
    let t = c.loop-i-test.true in
    let w = c.loop-i.invariant.wide in
    let f = c.requires.few in
    let l = length-greatests c.args.names.now in
    record {
      wide = simp length-set w;
      taken = set_taken c.loop-i.values (greatests c.args.names.now) c.loop-i.i _ _ (omega arith) (omega arith) (omega arith) (greatests-at c.args.names.now c.loop-i.i _ t) c.loop-i.invariant.taken;
    }

pub returns : goal.returns
returns c = let f = c.loop-i-test.false in let e = c.loop-i.auto.i-end in take_to_end (greatests c.args.names.now) c.loop-i.values c.loop-i.i _ (omega arith) (length-greatests c.args.names.now) c.loop-i.invariant.taken
