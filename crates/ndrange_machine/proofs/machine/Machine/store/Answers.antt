use Rattle.std.proofs.Common.{◌≡◌, ◌∙◌, length, ap, sym, subst, refl}
use Rattle.kernel_tree.specs.declared.events.Event.TheVariants.{Step}
use Rattle.ndrange_machine.specs.Memory.{held, put_held}
use Rattle.ndrange_machine.specs.Takes.{Advanced}
use Rattle.ndrange_machine.specs.declared.memory.Memory.{Memory}
use Rattle.kernel_tree.specs.Device.{Cell}
use Rattle.ndrange_machine.proofs.Stepping.{named, took_one, took_one_outside}
use Rattle.ndrange_machine.proofs.Telling.{advanced_to, stands_at}
use Rattle.ndrange_machine.proofs.machine.Machine.store.Goals as goal

pub settle-diverges-requires-clause-stands : goal.settle-diverges-requires-clause-stands
settle-diverges-requires-clause-stands c = stands_at _ _ _ _ _ c.change.ensures.item

pub returns-then-write : goal.returns-then-write
returns-then-write c = λ w k l d es st clean en.
    let m = c.args.self.now in
    let n = c.change.new.self in
    let g = c.group_of-group.result in
    let mem : n.memory ≡ c.write.new.self = c.change.ensures.memory ∙ c.touch-races.ensures.core.memory in
    advanced_to k l d es (Step c.args.item) c.settle-diverges.new.self c.tells.new.self c.tells.result _ c.tells.ensures
    (took_one k l d m es st clean c.args.item en g c.group_of-group.ensures c.args.array c.args.index c.args.word c.args.line w n
    (subst (λ (z : Memory). (e : Cell) → held z e ≡ put_held (held m.memory) (named k l d m es st clean c.args.item en g c.args.array c.args.index) c.args.word e) (sym mem) c.write.ensures.cells)
    (ap (λ z. length z.outs.items) mem ∙ c.write.ensures.outputs) (sym c.write.ensures.there ∙ c.if-write.true)
    _ c.touch-races.new.self n c.settle-diverges.new.self c.touch-races.result c.settle-diverges.result c.touch-races.ensures.core refl refl refl (sym mem) refl refl c.touch-races.ensures.ready c.touch-races.ensures.tracks
    c.change.ensures.item c.change.ensures.memory c.change.ensures.marks c.change.ensures.ready c.settle-diverges.ensures.core c.settle-diverges.ensures.marks c.settle-diverges.ensures.settles)

pub returns-else-write : goal.returns-else-write
returns-else-write c = λ w k l d es st clean en.
    let m = c.args.self.now in
    let g = c.group_of-group.result in
    let b = c.stop_outside.ensures.stops.between in
    let mem : b.memory ≡ c.write.new.self = c.stop_outside.ensures.stops.memory in
    subst (Advanced k l d es (Step c.args.item) c.stop_outside.new.self) (sym c.stop_outside.ensures.fault)
    (took_one_outside k l d m es st clean c.args.item en g c.group_of-group.ensures c.args.array c.args.index c.args.word c.args.line w b
    (subst (λ (z : Memory). (e : Cell) → held z e ≡ put_held (held m.memory) (named k l d m es st clean c.args.item en g c.args.array c.args.index) c.args.word e) (sym mem) c.write.ensures.cells)
    (ap (λ z. length z.outs.items) mem ∙ c.write.ensures.outputs) (sym c.write.ensures.there ∙ c.if-write.false)
    _ c.stop_outside.new.self refl refl refl (sym mem) refl c.stop_outside.ensures.stops)
