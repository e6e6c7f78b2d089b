use Rattle.std.proofs.Common.{◌∷◌, [], ◌++◌, ◌-◌, sym, ap, ◌∙◌, arith, true}
use Rattle.std.proofs.lemmas.List.{append_assoc}
use Rattle.group_form.specs.Uses.{touches_in, writes_from, touch_of}
use Rattle.phase_plan.proofs.Touching.{last_first}
use Rattle.phase_plan.proofs.uses.add_writes.Goals as goal

pub loop-array-preserved : goal.loop-array-preserved
loop-array-preserved c =
    let a = c.loop-array.array in
    let so_far = c.loop-array.touches.items in
    let here = touch_of c.args.phase (record { array = a - 1; writes = true; aligned = c.args.direct }) in
    let rest = touches_in c.args.phase (writes_from c.args.first c.args.direct (a - 1 - c.args.first)) in
    record {
      within = omega arith;
      written = ap (λ ys. ys ++ rest) c.in_ok-push.ensures.items ∙ append_assoc so_far (here ∷ []) rest ∙ ap (λ us. so_far ++ touches_in c.args.phase us) (sym (last_first c.args.first a c.args.direct c.loop-array-test.true)) ∙ c.loop-array.invariant.written;
    }
