use Rattle.std.proofs.Common.{ap, ◌∙◌, subst, sym}
use Rattle.enabled_events.specs.Flags.{IsHeight}
use Rattle.std.specs.Prelude.{slice_get}
use Rattle.kernel_tree.specs.Device.{device_of}
use Rattle.ndrange_machine.specs.Stands.{state_after}
use Rattle.ndrange_machine.proofs.machine.Machine.nth_enabled_counted.Goals as goal

pub returns-clause-event : goal.returns-clause-event
returns-clause-event g c = λ k l d es all st are.
    ap (λ z. slice_get z c.args.k) (c.flags_tell.ensures.only (device_of k l d) (state_after k l d es) c.args.self.now.ready all st.holds.whole st.flags are) ∙ c.nth_enabled_counted.ensures.event

pub returns-clause-cost : goal.returns-clause-cost
returns-clause-cost g c = λ n h.
    c.nth_enabled_counted.ensures.cost n (subst (λ z. IsHeight z n) (sym c.args.self.now.ready_items) h)
