use Rattle.std.proofs.Common.{◌∙◌, sym, ap, subst}
use Rattle.std.specs.Prelude.{option_map}
use Rattle.kernel_tree.specs.declared.events.Event.TheVariants.{Step}
use Rattle.ndrange_machine.specs.Known.{four_of}
use Rattle.ndrange_machine.specs.Takes.{Advanced}
use Rattle.ndrange_machine.proofs.Stepping.{took_four, took_four_outside}
use Rattle.ndrange_machine.proofs.Telling.{advanced_to, stands_at}
use Rattle.ndrange_machine.proofs.machine.Machine.load_four.Goals as goal

pub settle-diverges-requires-clause-stands : goal.settle-diverges-requires-clause-stands
settle-diverges-requires-clause-stands c = stands_at _ _ _ _ _ c.change.ensures.item

pub returns-in-Some : goal.returns-in-Some
returns-in-Some c = λ w k l d es st clean en.
    advanced_to k l d es (Step c.args.item) c.settle-diverges.new.self c.tells_four.new.self c.tells_four.result _ c.tells_four.ensures
    (took_four k l d c.args.self.now es st clean c.args.item en c.group_of-group.result c.group_of-group.ensures c.args.variable c.args.array c.args.offset c.args.line w c.in-Some.four (sym c.read_four.ensures ∙ ap (option_map four_of) c.in-Some.is)
    c.touch_four-lane.new.self c.change.new.self c.settle-diverges.new.self c.touch_four-lane.result c.settle-diverges.result c.touch_four-lane.ensures.core c.touch_four-lane.ensures.ready c.touch_four-lane.ensures.tracks
    c.change.ensures.item c.change.ensures.memory c.change.ensures.marks c.change.ensures.ready c.settle-diverges.ensures.core c.settle-diverges.ensures.marks c.settle-diverges.ensures.settles)

pub returns-in-None : goal.returns-in-None
returns-in-None c = λ w k l d es st clean en.
    subst (Advanced k l d es (Step c.args.item) c.stop_outside.new.self) (sym c.stop_outside.ensures.fault)
    (took_four_outside k l d c.args.self.now es st clean c.args.item en c.group_of-group.result c.group_of-group.ensures c.args.variable c.args.array c.args.offset c.args.line w (sym c.read_four.ensures ∙ ap (option_map four_of) c.in-None.is) c.stop_outside.new.self c.stop_outside.ensures.stops)
