use Rattle.std.proofs.Common.{◌≡◌, ◌+◌, ◌∙◌, ap, arith}
use Rattle.barrier_placement.proofs.Steps.{Reached, started, stepped_on, stepped, left_open, closed_off, Placed}
use Rattle.barrier_placement.proofs.Aligned.{none_needed}
use Rattle.barrier_placement.proofs.placing.place.Goals as goal
use Rattle.barrier_placement.proofs.placing.place.Goals.{in-Some+in_ok-push, in_default, in-Some-last_barrier+in_ok-push-2, in_default-last_barrier}

pub loop-phase-init : goal.loop-phase-init
loop-phase-init c = record { reached = started c.args.touches.now c.args.once c.args.phases c.new-barriers.result.items c.new-barriers.ensures.items c.requires.some; most = omega arith }

reached : (c : goal.Joined-barrier_before) → Reached c.args.touches.now c.args.once c.args.phases (c.loop-phase.phase + 1) c.match-barrier_before.first c.match-barrier_before.last c.match-barrier_before.barriers.items
reached c =
    let so_far = c.loop-phase.invariant.reached in
    elim c.match-barrier_before.branch [
      | in-Some+in_ok-push w ↦ stepped c.args.touches.now c.args.once c.args.phases c.loop-phase.phase c.loop-phase.first c.loop-phase.last c.match-barrier_before.first c.match-barrier_before.last c.loop-phase.barriers.items c.match-barrier_before.barriers.items w.in-Some.barrier so_far w.in-Some.ensures c.loop-phase.auto.phase c.loop-phase-test.true (w.first-is ∙ w.min-first.ensures) w.last-is (ap (λ v. v.items) w.barriers-is ∙ w.in_ok-push.ensures.items)
      | in_default w ↦ stepped_on c.args.touches.now c.args.once c.args.phases c.loop-phase.phase c.loop-phase.first c.loop-phase.last c.match-barrier_before.first c.match-barrier_before.last c.loop-phase.barriers.items c.match-barrier_before.barriers.items so_far w.in_default.ensures w.first-is w.last-is (ap (λ v. v.items) w.barriers-is)
    ]

pub loop-phase-preserved : goal.loop-phase-preserved
loop-phase-preserved c = record { reached = reached c; most = omega arith }

placed : (c : goal.Joined-last_barrier) → Placed c.args.touches.now c.args.once c.args.phases c.match-last_barrier.barriers.items
placed c =
    let so_far = c.loop-phase.invariant.reached in
    let most = c.loop-phase.invariant.most in
    let at_end : c.loop-phase.phase ≡ c.args.phases = omega arith in
    elim c.match-last_barrier.branch [
      | in-Some-last_barrier+in_ok-push-2 w ↦ closed_off c.args.touches.now c.args.once c.args.phases c.loop-phase.phase c.loop-phase.first c.loop-phase.last c.loop-phase.barriers.items c.match-last_barrier.barriers.items w.in-Some-last_barrier.barrier so_far at_end w.in-Some-last_barrier.ensures.0 w.in-Some-last_barrier.ensures.1 w.in-Some-last_barrier.ensures.2 (ap (λ v. v.items) w.barriers-is ∙ w.in_ok-push-2.ensures.items)
      | in_default-last_barrier w ↦ left_open c.args.touches.now c.args.once c.args.phases c.loop-phase.phase c.loop-phase.first c.loop-phase.last c.loop-phase.barriers.items c.match-last_barrier.barriers.items so_far at_end w.in_default-last_barrier.ensures (ap (λ v. v.items) w.barriers-is)
    ]

pub returns-clause-needed : goal.returns-clause-needed
returns-clause-needed c = (placed c).needed

pub returns-clause-in_order : goal.returns-clause-in_order
returns-clause-in_order c = (placed c).in_order

pub returns-clause-pairs : goal.returns-clause-pairs
returns-clause-pairs c = (placed c).pairs

pub returns-then-are_aligned-clause-needed : goal.returns-then-are_aligned-clause-needed
returns-then-are_aligned-clause-needed c = none_needed c.args.touches.now (c.are_aligned.ensures c.if-are_aligned.true) c.args.once c.args.phases c.new-barriers.result.items c.new-barriers.ensures.items
