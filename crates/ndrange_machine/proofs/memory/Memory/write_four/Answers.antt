use Rattle.std.proofs.Common.{◌≡◌, ◌∙◌, ◌*◌, ap}
use Rattle.std.specs.Prelude.{is_some}
use Rattle.kernel_tree.specs.Device.{Cell, behind, home}
use Rattle.kernel_tree.specs.Tree.{array_of}
use Rattle.ndrange_machine.specs.Memory.{held, put_held}
use Rattle.ndrange_machine.proofs.Cells.{pointwise, put_there}
use Rattle.ndrange_machine.proofs.memory.Memory.write_four.Goals as goal

pub returns-clause-there : goal.returns-clause-there
returns-clause-there c =
    let a = array_of c.args.array in
    let d : Cell = record { array = a; home = home c.args.group c.args.item a; index = 4 * c.args.offset } in
    let u = c.args.four in
    let e = behind 3 d in
    c.write-4.ensures.there
    ∙ ap is_some (c.write-3.ensures.cells e) ∙ put_there (held c.write-2.new.self) (behind 2 d) u.z e
    ∙ ap is_some (c.write-2.ensures.cells e) ∙ put_there (held c.write.new.self) (behind 1 d) u.y e
    ∙ ap is_some (c.write.ensures.cells e) ∙ put_there (held c.args.self.now) d u.x e

pub returns-clause-cells : goal.returns-clause-cells
returns-clause-cells c = λ cell.
    let a = array_of c.args.array in
    let d : Cell = record { array = a; home = home c.args.group c.args.item a; index = 4 * c.args.offset } in
    let u = c.args.four in
    let f0 = held c.args.self.now in
    let f1 = put_held f0 d u.x in
    let f2 = put_held f1 (behind 1 d) u.y in
    let f3 = put_held f2 (behind 2 d) u.z in
    let p1 : held c.write.new.self ≡ f1 = pointwise (held c.write.new.self) f1 c.write.ensures.cells in
    let p2 : held c.write-2.new.self ≡ f2 = pointwise (held c.write-2.new.self) (put_held (held c.write.new.self) (behind 1 d) u.y) c.write-2.ensures.cells ∙ ap (λ f. put_held f (behind 1 d) u.y) p1 in
    let p3 : held c.write-3.new.self ≡ f3 = pointwise (held c.write-3.new.self) (put_held (held c.write-2.new.self) (behind 2 d) u.z) c.write-3.ensures.cells ∙ ap (λ f. put_held f (behind 2 d) u.z) p2 in
    c.write-4.ensures.cells cell ∙ ap (λ f. put_held f (behind 3 d) u.w cell) p3
