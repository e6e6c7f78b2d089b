use Rattle.std.proofs.Common.{◌∙◌, sym, subst}
use Rattle.kernel_tree.specs.declared.events.Event.TheVariants.{Step}
use Rattle.ndrange_machine.specs.Takes.{Advanced}
use Rattle.ndrange_machine.proofs.Stepping.{took_read, took_read_outside}
use Rattle.ndrange_machine.proofs.Telling.{advanced_to, stands_at}
use Rattle.ndrange_machine.proofs.machine.Machine.load.Goals as goal

pub settle-diverges-requires-clause-stands : goal.settle-diverges-requires-clause-stands
settle-diverges-requires-clause-stands c = stands_at _ _ _ _ _ c.change.ensures.item

pub returns-in-Some : goal.returns-in-Some
returns-in-Some c = λ w k l d es st clean en.
    advanced_to k l d es (Step c.args.item) c.settle-diverges.new.self c.tells.new.self c.tells.result _ c.tells.ensures
    (took_read k l d c.args.self.now es st clean c.args.item en c.group_of-group.result c.group_of-group.ensures c.args.variable c.args.array c.args.index c.args.line w c.in-Some.word (sym c.read.ensures ∙ c.in-Some.is)
    c.touch-races.new.self c.change.new.self c.settle-diverges.new.self c.touch-races.result c.settle-diverges.result c.touch-races.ensures.core c.touch-races.ensures.ready c.touch-races.ensures.tracks
    c.change.ensures.item c.change.ensures.memory c.change.ensures.marks c.change.ensures.ready c.settle-diverges.ensures.core c.settle-diverges.ensures.marks c.settle-diverges.ensures.settles)

pub returns-in-None : goal.returns-in-None
returns-in-None c = λ w k l d es st clean en.
    subst (Advanced k l d es (Step c.args.item) c.stop_outside.new.self) (sym c.stop_outside.ensures.fault)
    (took_read_outside k l d c.args.self.now es st clean c.args.item en c.group_of-group.result c.group_of-group.ensures c.args.variable c.args.array c.args.index c.args.line w (sym c.read.ensures ∙ c.in-None.is) c.stop_outside.new.self c.stop_outside.ensures.stops)
