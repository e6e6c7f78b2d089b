use Rattle.std.proofs.Common.{ap, ◌∙◌}
use Rattle.std.specs.Prelude.{slice_get}
use Rattle.kernel_tree.specs.Device.{device_of}
use Rattle.ndrange_machine.specs.Stands.{state_after}
use Rattle.ndrange_machine.proofs.machine.Machine.nth_enabled.Goals as goal

pub returns-clause-event : goal.returns-clause-event
returns-clause-event c = λ k l d es all st are.
    ap (λ z. slice_get z c.args.k) (c.flags_tell.ensures.only (device_of k l d) (state_after k l d es) c.args.self.now.ready all st.holds.whole st.flags are) ∙ c.nth_enabled.ensures
