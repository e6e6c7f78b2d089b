use Rattle.std.proofs.Common.{◌≡◌, ◌+◌, ◌≤◌, [], sym, subst, ◌∙◌, arith}
use Rattle.std.proofs.lemmas.Nat.{mod_below}
use Rattle.kernel_tree.specs.Bound.{bound}
use Rattle.kernel_tree.specs.Schedule.{schedule_of}
use Rattle.ndrange_device.proofs.Running.{RunsAlong, runs_none, runs_on, few_events, is_enabled, nth_within, faults_under, ends_under}
use Rattle.ndrange_device.proofs.follow.Goals as goal

pub loop-enabled-init : goal.loop-enabled-init
loop-enabled-init g c =
    let b = g.begun in
    let stands = c.requires.1.1.1.1 in
    runs_none (schedule_of c.args.schedule.now) b.kernel b.launch b.cells c.args.machine c.start-progress.result c.new-steps.result c.enabled-enabled.result stands c.start-progress.ensures c.new-steps.ensures
    (c.enabled-enabled.ensures.counts b.kernel b.launch b.cells [] stands) c.enabled-enabled.ensures.number

pub loop-enabled-preserved : goal.loop-enabled-preserved
loop-enabled-preserved g c =
    let b = g.begun in
    let schedule = schedule_of c.args.schedule.now in
    let h = c.loop-enabled.invariant in
    let more = c.enabled-enabled-in-loop-enabled.result in
    let number_is = c.number.ensures h.events h.come in
    let nth = nth_within schedule b.kernel b.launch b.cells c.loop-enabled.machine c.number.result c.loop-enabled.enabled c.within.result c.nth_enabled-event.result c.within.ensures (c.nth_enabled-event.ensures.event b.kernel b.launch b.cells) in
    subst (λ s. RunsAlong schedule b.kernel b.launch b.cells c.advance-fault.new.self c.count.new.self s more) (sym c.tick.ensures)
    (runs_on schedule b.kernel b.launch b.cells c.loop-enabled.machine c.loop-enabled.progress c.loop-enabled.steps c.loop-enabled.enabled c.number.result h number_is c.nth_enabled-event.result nth
    c.advance-fault.new.self c.advance-fault.result (c.advance-fault.ensures.advances b.kernel b.launch b.cells h.events h.stands h.faultless (is_enabled schedule b.kernel b.launch b.cells c.loop-enabled.machine c.loop-enabled.progress c.loop-enabled.steps c.loop-enabled.enabled c.number.result h number_is c.nth_enabled-event.result nth)) c.advance-fault.ensures.release c.count.new.self c.count.ensures more
    (sym c.found.ensures ∙ c.in_default.is)
    (λ es stands. c.enabled-enabled-in-loop-enabled.ensures.counts b.kernel b.launch b.cells es stands) c.enabled-enabled-in-loop-enabled.ensures.number)

pub loop-enabled-smaller : goal.loop-enabled-smaller
loop-enabled-smaller g c =
    let b = g.begun in
    let few : c.loop-enabled.steps ≤ bound b.kernel b.launch = few_events (schedule_of c.args.schedule.now) b.kernel b.launch b.cells c.loop-enabled.machine c.loop-enabled.progress c.loop-enabled.steps c.loop-enabled.enabled c.loop-enabled.invariant in
    let one : c.tick.new.self ≡ c.loop-enabled.steps + 1 = c.tick.ensures in
    omega arith

pub nth_enabled-event-requires : goal.nth_enabled-event-requires
nth_enabled-event-requires g c =
    let some = c.loop-enabled-test.true in
    let told = c.loop-enabled.invariant.told in
    let is = c.within.ensures in
    let below = mod_below c.number.result c.loop-enabled.enabled some in
    omega arith

pub returns-in-Some-clause-fault : goal.returns-in-Some-clause-fault
returns-in-Some-clause-fault g c =
    let b = g.begun in
    let schedule = schedule_of c.args.schedule.now in
    let h = c.loop-enabled.invariant in
    let number_is = c.number.ensures h.events h.come in
    let nth = nth_within schedule b.kernel b.launch b.cells c.loop-enabled.machine c.number.result c.loop-enabled.enabled c.within.result c.nth_enabled-event.result c.within.ensures (c.nth_enabled-event.ensures.event b.kernel b.launch b.cells) in
    faults_under schedule b.kernel b.launch b.cells c.loop-enabled.machine c.loop-enabled.progress c.loop-enabled.steps c.loop-enabled.enabled c.number.result h number_is c.nth_enabled-event.result nth
    c.advance-fault.new.self c.advance-fault.result (c.advance-fault.ensures.advances b.kernel b.launch b.cells h.events h.stands h.faultless (is_enabled schedule b.kernel b.launch b.cells c.loop-enabled.machine c.loop-enabled.progress c.loop-enabled.steps c.loop-enabled.enabled c.number.result h number_is c.nth_enabled-event.result nth)) c.advance-fault.ensures.release c.count.new.self c.count.ensures c.in-Some.no
    (sym c.found.ensures ∙ c.in-Some.is)

pub returns-clause-outcome : goal.returns-clause-outcome
returns-clause-outcome g c =
    let b = g.begun in
    ends_under (schedule_of c.args.schedule.now) b.kernel b.launch b.cells c.loop-enabled.machine c.loop-enabled.progress c.loop-enabled.steps c.loop-enabled.enabled _ c.loop-enabled.invariant c.loop-enabled-test.false
    (λ es stands. c.outputs.ensures b.kernel b.launch b.cells es stands)
