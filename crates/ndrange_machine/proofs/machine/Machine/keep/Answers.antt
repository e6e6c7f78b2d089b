use Rattle.kernel_tree.specs.declared.events.Event.TheVariants.{Step}
use Rattle.ndrange_machine.proofs.Stepping.{took_change}
use Rattle.ndrange_machine.proofs.Telling.{advanced_to, stands_at}
use Rattle.ndrange_machine.proofs.machine.Machine.keep.Goals as goal

pub settle-diverges-requires-clause-stands : goal.settle-diverges-requires-clause-stands
settle-diverges-requires-clause-stands c = stands_at _ _ _ _ _ c.change.ensures.item

pub returns : goal.returns
returns c = λ w k l d es st clean en.
    advanced_to k l d es (Step c.args.item) c.settle-diverges.new.self c.tells_divergence.new.self c.tells_divergence.result _ c.tells_divergence.ensures
    (took_change k l d c.args.self.now es st clean c.args.item en c.marks_stay.ensures c.change.new.self c.settle-diverges.new.self c.args.change c.args.line c.settle-diverges.result w c.change.ensures.item c.change.ensures.memory c.change.ensures.marks c.change.ensures.ready c.settle-diverges.ensures.core c.settle-diverges.ensures.marks c.settle-diverges.ensures.settles)
