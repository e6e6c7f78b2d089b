use Rattle.std.proofs.Common.{refl, sym, subst, ◌∙◌}
use Rattle.std.specs.Vec.{with_items}
use Rattle.kernel_tree.specs.Device.{home}
use Rattle.kernel_tree.specs.Tree.{array_of}
use Rattle.ndrange_machine.specs.declared.memory.Memory.{Memory}
use Rattle.ndrange_machine.proofs.Cells.{Puts, put_in, wrote_input, wrote_output, wrote_local, wrote_private}
use Rattle.ndrange_machine.proofs.memory.Memory.write.Goals as goal

pub returns-in-Input-clause-cells : goal.returns-in-Input-clause-cells
returns-in-Input-clause-cells c =
    let m = c.args.self.now in
    let n : Memory = record { ins = with_items m.ins c.write_in.new.rows; outs = m.outs; locals = m.locals; privates = m.privates } in
    subst (λ x. Puts m n c.args.index c.args.word (record { array = array_of x; home = home c.args.group c.args.item (array_of x); index = c.args.index })) (sym c.in-Input.is)
    (wrote_input m n c.args.index c.args.word c.in-Input.a refl refl refl
    (put_in c.args.index c.args.word c.in-Input.a m.ins _ _ (c.write_in.auto.rows ∙ c.deref_mut.ensures.len) c.deref_mut.ensures.value c.write_in.ensures.cells))

pub returns-in-Output-clause-cells : goal.returns-in-Output-clause-cells
returns-in-Output-clause-cells c =
    let m = c.args.self.now in
    let n : Memory = record { ins = m.ins; outs = with_items m.outs c.write_in-in-Output.new.rows; locals = m.locals; privates = m.privates } in
    subst (λ x. Puts m n c.args.index c.args.word (record { array = array_of x; home = home c.args.group c.args.item (array_of x); index = c.args.index })) (sym c.in-Output.is)
    (wrote_output m n c.args.index c.args.word c.in-Output.a refl refl refl
    (put_in c.args.index c.args.word c.in-Output.a m.outs _ _ (c.write_in-in-Output.auto.rows ∙ c.deref_mut-in-Output.ensures.len) c.deref_mut-in-Output.ensures.value c.write_in-in-Output.ensures.cells))

pub returns-in-Local-clause-cells : goal.returns-in-Local-clause-cells
returns-in-Local-clause-cells c =
    let m = c.args.self.now in
    let n : Memory = record { ins = m.ins; outs = m.outs; locals = c.write.new.self; privates = m.privates } in
    subst (λ x. Puts m n c.args.index c.args.word (record { array = array_of x; home = home c.args.group c.args.item (array_of x); index = c.args.index })) (sym c.in-Local.is)
    (wrote_local m n c.args.index c.args.word c.args.group c.in-Local.a refl refl refl c.write.ensures.cells)

pub returns-in-Private-clause-cells : goal.returns-in-Private-clause-cells
returns-in-Private-clause-cells c =
    let m = c.args.self.now in
    let n : Memory = record { ins = m.ins; outs = m.outs; locals = m.locals; privates = c.write-in-Private.new.self } in
    subst (λ x. Puts m n c.args.index c.args.word (record { array = array_of x; home = home c.args.group c.args.item (array_of x); index = c.args.index })) (sym c.in-Private.is)
    (wrote_private m n c.args.index c.args.word c.args.item c.in-Private.a refl refl refl c.write-in-Private.ensures.cells)
