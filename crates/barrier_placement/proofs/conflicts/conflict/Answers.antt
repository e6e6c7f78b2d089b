use Rattle.std.proofs.Common.{List, All, subst}
use Rattle.std.proofs.lemmas.Bool.{iff_false}
use Rattle.std.proofs.lemmas.List.{take_all}
use Rattle.std.proofs.lemmas.List.Elements.{All-more}
use Rattle.barrier_placement.specs.declared.touches.Touch.{Touch}
use Rattle.barrier_placement.proofs.Clashes.{NoConflict, no_conflict, no_touch, unequal}
use Rattle.barrier_placement.proofs.conflicts.conflict.Goals as goal
use Rattle.barrier_placement.proofs.conflicts.conflict.Goals.{then-touch-local+then-has+in_default, else-touch-local, else-touch-local-via-then-touch-local+else-has, else-touch-local-via-else-touch-local}

pub loop-touch-preserved : goal.loop-touch-preserved
loop-touch-preserved c =
    All-more (NoConflict c.args.touches.now c.args.local c.args.earlier c.args.later) c.args.touches.now c.loop-touch.touch-index no_touch c.loop-touch-test.true c.loop-touch.invariant
    (elim c.if-touch-local.branch [
      | then-touch-local+then-has+in_default w ↦ λ is_local in_later x used in_earlier clash. w.in_default.ensures x used in_earlier clash
      | else-touch-local w ↦ elim w.else-touch-local.branch [
        | else-touch-local-via-then-touch-local+else-has w' ↦ λ is_local in_later x used in_earlier clash. iff_false w'.has.ensures w'.if-has.false in_later
        | else-touch-local-via-else-touch-local w' ↦ λ is_local in_later x used in_earlier clash. unequal _ _ w'.if-touch-local.false is_local
      ]
    ])

pub returns : goal.returns
returns c = no_conflict c.args.touches.now c.args.local c.args.earlier c.args.later (subst (λ (xs : List Touch). All (NoConflict c.args.touches.now c.args.local c.args.earlier c.args.later) xs) (take_all c.loop-touch.touch-index c.args.touches.now c.loop-touch-test.false) c.loop-touch.invariant)
