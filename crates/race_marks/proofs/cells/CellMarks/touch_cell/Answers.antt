use Rattle.std.proofs.Common.{ap, refl}
use Rattle.kernel_tree.specs.Tree.{array_of}
use Rattle.race_marks.proofs.Telling.{by_output, by_local, by_input, by_private}
use Rattle.race_marks.proofs.cells.CellMarks.touch_cell.Goals as goal

pub returns-in-Output-clause-tracks : goal.returns-in-Output-clause-tracks
returns-in-Output-clause-tracks c =
    let m = c.self.inside in
    by_output (record { groups = m.groups; outputs = m.outputs; locals = m.locals }) c.args.self.now c.self.view_is (array_of c.args.array) c.in-Output.a c.args.index c.args.touch (ap array_of c.in-Output.is) c.touch.result c.touch.new.self c.touch.ensures.race c.touch.ensures.marks

pub returns-in-Local-clause-tracks : goal.returns-in-Local-clause-tracks
returns-in-Local-clause-tracks c =
    let m = c.self.inside in
    by_local (record { groups = m.groups; outputs = m.outputs; locals = m.locals }) c.args.self.now c.self.view_is (array_of c.args.array) c.in-Local.a c.args.index c.args.touch (ap array_of c.in-Local.is) c.requires c.touch-in-Local.result c.touch-in-Local.new.self c.touch-in-Local.ensures.race c.touch-in-Local.ensures.marks

pub returns-in-Input-clause-tracks : goal.returns-in-Input-clause-tracks
returns-in-Input-clause-tracks c = by_input c.args.self.now c.args.self.now refl (array_of c.args.array) c.in-Input.field-0 c.args.index c.args.touch (ap array_of c.in-Input.is)

pub returns-in-Private-clause-tracks : goal.returns-in-Private-clause-tracks
returns-in-Private-clause-tracks c = by_private c.args.self.now c.args.self.now refl (array_of c.args.array) c.in-Private.field-0 c.args.index c.args.touch (ap array_of c.in-Private.is)
