use Rattle.demo_program.proofs.Words.{next_state, no_words, one_more}
use Rattle.std.proofs.Common.{◌∙◌, ap, refl, sym, map}
use Rattle.lift_tree.specs.Values.{value_of}
use Rattle.demo_program.proofs.data.data.Goals as goal

pub loop-done-init : goal.loop-done-init
loop-done-init c = record { state = refl; so_far = ap (map value_of) c.new-values.ensures.items ∙ sym (no_words c.args.seed) }

pub loop-done-preserved : goal.loop-done-preserved
loop-done-preserved c =
    let here = c.loop-done.invariant in
    let next = next_state c.args.seed c.loop-done._done c.loop-done.state c.next-state.result here.state c.next-state.ensures in
    record { state = next; so_far = one_more c.args.seed c.loop-done._done c.next-state.result c.loop-done.values.items c.push.new.self.items next here.so_far c.in_ok-push.ensures.items }
