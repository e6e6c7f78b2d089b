use Rattle.std.proofs.Common.{subst}
use Rattle.ndrange_machine.specs.Takes.{IsWanted}
use Rattle.ndrange_machine.proofs.Passing.{passes_one, passes_not, stays}
use Rattle.ndrange_machine.proofs.machine.Machine.pass.Goals as goal

pub returns-in-Waits : goal.returns-in-Waits
returns-in-Waits c =
    let w = c.in-Waits in
    passes_one c.args.self.now c.change.new.self c.args.item w.next w.on_local w.on_global (subst (IsWanted c.args.self.now c.args.item) w.is c.want.ensures) c.change.ensures.item c.change.ensures.memory c.change.ensures.marks c.change.ensures.ready

pub returns-in_default : goal.returns-in_default
returns-in_default c = passes_not c.args.self.now c.args.item c.want.result c.want.ensures (stays c.want.result c.in_default.not-Waits)
