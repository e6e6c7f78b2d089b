use Rattle.std.proofs.Common.{◌≡◌, ◌∙◌, length, ap, sym, subst, refl}
use Rattle.kernel_tree.specs.declared.events.Event.TheVariants.{Step}
use Rattle.kernel_tree.specs.Device.{Cell}
use Rattle.ndrange_machine.specs.Known.{four_of}
use Rattle.ndrange_machine.specs.Memory.{held, put_four}
use Rattle.ndrange_machine.specs.Takes.{Advanced}
use Rattle.ndrange_machine.specs.declared.memory.Memory.{Memory}
use Rattle.std.proofs.Common.{◌*◌}
use Rattle.ndrange_machine.proofs.Stepping.{named, took_stores, took_stores_outside}
use Rattle.ndrange_machine.proofs.Telling.{advanced_to, stands_at}
use Rattle.ndrange_machine.proofs.machine.Machine.store_four.Goals as goal

pub settle-diverges-requires-clause-stands : goal.settle-diverges-requires-clause-stands
settle-diverges-requires-clause-stands c = stands_at _ _ _ _ _ c.change.ensures.item

pub returns-then-write_four : goal.returns-then-write_four
returns-then-write_four c = λ w k l d es st clean en.
    let m = c.args.self.now in
    let n = c.change.new.self in
    let g = c.group_of-group.result in
    let mem : n.memory ≡ c.write_four.new.self = c.change.ensures.memory ∙ c.touch_four-lane.ensures.core.memory in
    advanced_to k l d es (Step c.args.item) c.settle-diverges.new.self c.tells_four.new.self c.tells_four.result _ c.tells_four.ensures
    (took_stores k l d m es st clean c.args.item en g c.group_of-group.ensures c.args.array c.args.offset c.args.four c.args.line w n
    (subst (λ (z : Memory). (e : Cell) → held z e ≡ put_four (held m.memory) (named k l d m es st clean c.args.item en g c.args.array (4 * c.args.offset)) (four_of c.args.four) e) (sym mem) c.write_four.ensures.cells)
    (ap (λ z. length z.outs.items) mem ∙ c.write_four.ensures.outputs) (sym c.write_four.ensures.there ∙ c.if-write_four.true)
    _ c.touch_four-lane.new.self n c.settle-diverges.new.self c.touch_four-lane.result c.settle-diverges.result c.touch_four-lane.ensures.core refl refl refl (sym mem) refl refl c.touch_four-lane.ensures.ready c.touch_four-lane.ensures.tracks
    c.change.ensures.item c.change.ensures.memory c.change.ensures.marks c.change.ensures.ready c.settle-diverges.ensures.core c.settle-diverges.ensures.marks c.settle-diverges.ensures.settles)

pub returns-else-write_four : goal.returns-else-write_four
returns-else-write_four c = λ w k l d es st clean en.
    let m = c.args.self.now in
    let g = c.group_of-group.result in
    let b = c.stop_outside.ensures.stops.between in
    let mem : b.memory ≡ c.write_four.new.self = c.stop_outside.ensures.stops.memory in
    subst (Advanced k l d es (Step c.args.item) c.stop_outside.new.self) (sym c.stop_outside.ensures.fault)
    (took_stores_outside k l d m es st clean c.args.item en g c.group_of-group.ensures c.args.array c.args.offset c.args.four c.args.line w b
    (subst (λ (z : Memory). (e : Cell) → held z e ≡ put_four (held m.memory) (named k l d m es st clean c.args.item en g c.args.array (4 * c.args.offset)) (four_of c.args.four) e) (sym mem) c.write_four.ensures.cells)
    (ap (λ z. length z.outs.items) mem ∙ c.write_four.ensures.outputs) (sym c.write_four.ensures.there ∙ c.if-write_four.false)
    _ c.stop_outside.new.self refl refl refl (sym mem) refl c.stop_outside.ensures.stops)
