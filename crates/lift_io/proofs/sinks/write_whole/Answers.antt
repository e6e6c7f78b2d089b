use Rattle.std.proofs.Common.{arith, take, List, ℕ, subst}
use Rattle.std.proofs.lemmas.List.{take_rest}
use Rattle.std.specs.Io.KnownBytes.{Appends}
use Rattle.lift_io.proofs.Taken.{appends_more}
use Rattle.lift_io.proofs.sinks.write_whole.Goals as goal

pub loop-done-preserved : goal.loop-done-preserved
loop-done-preserved g c =
    let more = subst (λ (w : List ℕ). Appends (g.S.Sink.taken c.loop-done.sink) (g.S.Sink.taken c.write.new.self) (take c.in_ok-count.count w))
    (take_rest c.args.bytes.now c.loop-done.done) c.in_ok-count.ensures.bytes in
    record {
      within = omega (arith, c.in_ok-count.ensures.within);
      so_far = appends_more _ _ _ c.loop-done.done c.in_ok-count.count c.args.bytes.now c.loop-done.invariant.so_far more;
      later = omega (arith, c.in_ok-count.ensures.cause.later);
    }
