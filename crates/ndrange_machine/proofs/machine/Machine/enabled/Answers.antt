use Rattle.enabled_events.specs.Listed.{flagged_events}
use Rattle.kernel_tree.specs.Device.{device_of}
use Rattle.ndrange_machine.specs.Stands.{state_after}
use Rattle.ndrange_machine.proofs.machine.Machine.enabled.Goals as goal

pub returns-clause-counts : goal.returns-clause-counts
returns-clause-counts c = λ k l d es st.
    let v = c.args.self.now.ready in
    (flagged_events v, c.flags_tell.ensures.enabled (device_of k l d) (state_after k l d es) v st.holds.whole st.flags, c.enabled.ensures)
