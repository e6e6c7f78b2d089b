use Rattle.std.proofs.Common.{◌≡◌, ◌+◌, ◌≤◌, [], sym, subst, ◌∙◌, arith, refl, rules, Err}
use Rattle.std.specs.Prelude.{IfErr}
use Rattle.std.proofs.lemmas.Nat.{mod_below}
use Rattle.kernel_tree.specs.Bound.{bound}
use Rattle.kernel_tree.specs.Kernels.{kernel_of}
use Rattle.kernel_tree.specs.Schedule.{schedule_of}
use Rattle.ndrange_device.specs.Outcomes.{Gets, Refuses, Sees}
use Rattle.ndrange_device.specs.declared.outcome.DeviceNo.TheVariants.{Memory}
use Rattle.ndrange_device.proofs.Running.{NotesAlong, advanced, ends_under, faults_under, few_events, is_enabled, notes_none, notes_on, nth_within, sees_fault, sees_front, sees_none, sees_run}
use Rattle.ndrange_device.proofs.run_traced.Goals as goal

pub loop-enabled-init : goal.loop-enabled-init
loop-enabled-init g c =
    let k = kernel_of c.args.kernel in
    let stands = c.in_ok-machine.ensures in
    notes_none (schedule_of c.args.schedule.now) k c.args.launch c.args.cells c.in_ok-machine.machine c.start-progress.result c.new-steps.result c.enabled-enabled.result _ _ stands c.start-progress.ensures c.new-steps.ensures
    (c.enabled-enabled.ensures.counts k c.args.launch c.args.cells [] stands) c.enabled-enabled.ensures.number refl

pub loop-enabled-preserved : goal.loop-enabled-preserved
loop-enabled-preserved g c =
    let k = kernel_of c.args.kernel in
    let l = c.args.launch in
    let b = c.args.cells in
    let schedule = schedule_of c.args.schedule.now in
    let old = c.args.trace.now.items in
    let h = c.loop-enabled.invariant.along in
    let more = c.enabled-enabled-in-loop-enabled.result in
    let number_is = c.number.ensures h.events h.come in
    let nth = nth_within schedule k l b c.loop-enabled.machine c.number.result c.loop-enabled.enabled c.within.result c.nth_enabled-event.result c.within.ensures (c.nth_enabled-event.ensures.event k l b) in
    subst (λ s. NotesAlong schedule k l b c.step-seen.new.self c.count.new.self s more old c.note.new.trace.items) (sym c.tick.ensures)
    (notes_on schedule k l b c.loop-enabled.machine c.loop-enabled.progress c.loop-enabled.steps c.loop-enabled.enabled c.number.result h number_is c.nth_enabled-event.result nth
    c.step-seen.new.self c.step-seen.result (c.step-seen.ensures.takes k l b h.events h.stands h.faultless (is_enabled schedule k l b c.loop-enabled.machine c.loop-enabled.progress c.loop-enabled.steps c.loop-enabled.enabled c.number.result h number_is c.nth_enabled-event.result nth)) c.step-seen.ensures.release c.count.new.self c.count.ensures
    old c.loop-enabled.trace.items c.note.new.trace.items c.loop-enabled.invariant.noted c.in_ok-note.ensures.ok more
    (sym c.found.ensures ∙ c.in_default.is)
    (λ es stands. c.enabled-enabled-in-loop-enabled.ensures.counts k l b es stands) c.enabled-enabled-in-loop-enabled.ensures.number)

pub loop-enabled-smaller : goal.loop-enabled-smaller
loop-enabled-smaller g c =
    let k = kernel_of c.args.kernel in
    let few : c.loop-enabled.steps ≤ bound k c.args.launch = few_events (schedule_of c.args.schedule.now) k c.args.launch c.args.cells c.loop-enabled.machine c.loop-enabled.progress c.loop-enabled.steps c.loop-enabled.enabled c.loop-enabled.invariant.along in
    let one : c.tick.new.self ≡ c.loop-enabled.steps + 1 = c.tick.ensures in
    omega arith

pub nth_enabled-event-requires : goal.nth_enabled-event-requires
nth_enabled-event-requires g c =
    let some = c.loop-enabled-test.true in
    let told = c.loop-enabled.invariant.along.told in
    let is = c.within.ensures in
    let below = mod_below c.number.result c.loop-enabled.enabled some in
    omega arith

pub returns-in-Some-clause-refusal : goal.returns-in-Some-clause-refusal
returns-in-Some-clause-refusal g c =
    let k = kernel_of c.args.kernel in
    let l = c.args.launch in
    let b = c.args.cells in
    let schedule = schedule_of c.args.schedule.now in
    let old = c.args.trace.now.items in
    let h = c.loop-enabled.invariant.along in
    let number_is = c.number.ensures h.events h.come in
    let nth = nth_within schedule k l b c.loop-enabled.machine c.number.result c.loop-enabled.enabled c.within.result c.nth_enabled-event.result c.within.ensures (c.nth_enabled-event.ensures.event k l b) in
    let took = c.step-seen.ensures.takes k l b h.events h.stands h.faultless (is_enabled schedule k l b c.loop-enabled.machine c.loop-enabled.progress c.loop-enabled.steps c.loop-enabled.enabled c.number.result h number_is c.nth_enabled-event.result nth) in
    subst (Refuses schedule k l b) (sym c.from.ensures)
    (faults_under schedule k l b c.loop-enabled.machine c.loop-enabled.progress c.loop-enabled.steps c.loop-enabled.enabled c.number.result h number_is c.nth_enabled-event.result nth
    c.step-seen.new.self c.step-seen.result.fault
    (advanced schedule k l b c.loop-enabled.machine c.loop-enabled.progress c.loop-enabled.steps c.loop-enabled.enabled c.number.result h number_is c.nth_enabled-event.result nth c.step-seen.new.self c.step-seen.result took c.step-seen.ensures.release c.count.new.self c.count.ensures old c.loop-enabled.trace.items c.note.new.trace.items c.loop-enabled.invariant.noted c.in_ok-note.ensures.ok)
    c.step-seen.ensures.release c.count.new.self c.count.ensures c.in-Some.no (sym c.found.ensures ∙ c.in-Some.is))

pub returns-in-Some-clause-trace : goal.returns-in-Some-clause-trace
returns-in-Some-clause-trace g c =
    let k = kernel_of c.args.kernel in
    let l = c.args.launch in
    let b = c.args.cells in
    let schedule = schedule_of c.args.schedule.now in
    let old = c.args.trace.now.items in
    let h = c.loop-enabled.invariant.along in
    let number_is = c.number.ensures h.events h.come in
    let nth = nth_within schedule k l b c.loop-enabled.machine c.number.result c.loop-enabled.enabled c.within.result c.nth_enabled-event.result c.within.ensures (c.nth_enabled-event.ensures.event k l b) in
    let took = c.step-seen.ensures.takes k l b h.events h.stands h.faultless (is_enabled schedule k l b c.loop-enabled.machine c.loop-enabled.progress c.loop-enabled.steps c.loop-enabled.enabled c.number.result h number_is c.nth_enabled-event.result nth) in
    subst (λ r. Gets (Sees schedule k l b (Err r)) old c.note.new.trace.items) (sym c.from.ensures)
    (sees_fault schedule k l b c.loop-enabled.machine c.loop-enabled.progress c.loop-enabled.steps c.loop-enabled.enabled c.number.result h number_is c.nth_enabled-event.result nth
    c.step-seen.new.self c.step-seen.result took c.step-seen.ensures.release c.count.new.self c.count.ensures
    old c.loop-enabled.trace.items c.note.new.trace.items c.loop-enabled.invariant.noted c.in_ok-note.ensures.ok c.in-Some.no (sym c.found.ensures ∙ c.in-Some.is))

pub returns-clause-outcome : goal.returns-clause-outcome
returns-clause-outcome g c =
    let k = kernel_of c.args.kernel in
    ends_under (schedule_of c.args.schedule.now) k c.args.launch c.args.cells c.loop-enabled.machine c.loop-enabled.progress c.loop-enabled.steps c.loop-enabled.enabled _ c.loop-enabled.invariant.along c.loop-enabled-test.false
    (λ es stands. c.outputs.ensures k c.args.launch c.args.cells es stands)

pub returns-clause-trace : goal.returns-clause-trace
returns-clause-trace g c =
    sees_run (schedule_of c.args.schedule.now) (kernel_of c.args.kernel) c.args.launch c.args.cells c.loop-enabled.machine c.loop-enabled.progress c.loop-enabled.steps c.loop-enabled.enabled
    (record { outputs = c.outputs.result; events = c.loop-enabled.progress.events; releases = c.loop-enabled.progress.releases })
    c.args.trace.now.items c.loop-enabled.trace.items c.loop-enabled.invariant c.loop-enabled-test.false

pub returns-in_err-machine-clause-trace : goal.returns-in_err-machine-clause-trace
returns-in_err-machine-clause-trace g c =
    let schedule = schedule_of c.args.schedule.now in
    let k = kernel_of c.args.kernel in
    let old = c.args.trace.now.items in
    let memory : c.from_residual.result ≡ Err Memory = search rules in
    subst (λ r. Gets (Sees schedule k c.args.launch c.args.cells r) old old) (sym memory) (sees_none schedule k c.args.launch c.args.cells old old refl)

pub returns-in_err-note-clause-refusal : goal.returns-in_err-note-clause-refusal
returns-in_err-note-clause-refusal g c =
    let told = c.from_residual-in_err-note.ensures in
    let memory : c.from_residual-in_err-note.result ≡ Err Memory = search rules in
    subst (λ r. IfErr r (Refuses (schedule_of c.args.schedule.now) (kernel_of c.args.kernel) c.args.launch c.args.cells)) (sym memory) tt

pub returns-in_err-note-clause-trace : goal.returns-in_err-note-clause-trace
returns-in_err-note-clause-trace g c =
    let schedule = schedule_of c.args.schedule.now in
    let k = kernel_of c.args.kernel in
    let l = c.args.launch in
    let b = c.args.cells in
    let old = c.args.trace.now.items in
    let told = c.from_residual-in_err-note.ensures in
    let memory : c.from_residual-in_err-note.result ≡ Err Memory = search rules in
    subst (λ r. Gets (Sees schedule k l b r) old c.note.new.trace.items) (sym memory)
    (sees_front schedule k l b c.loop-enabled.machine c.loop-enabled.progress c.loop-enabled.steps c.loop-enabled.enabled old c.loop-enabled.trace.items c.note.new.trace.items c.loop-enabled.invariant c.in_err-note.ensures.err)
