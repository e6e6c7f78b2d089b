use Rattle.race_marks.proofs.Telling.{released_to}
use Rattle.race_marks.proofs.cells.CellMarks.release.Goals as goal

pub returns-clause-tells : goal.returns-clause-tells
returns-clause-tells c = λ d s es t flags.
    let m = c.self.inside in
    released_to d s es c.args.group c.args.on_local c.args.on_global (record { groups = m.groups; outputs = m.outputs; locals = m.locals }) c.args.self.now c.self.view_is
    c.release.new.self c.release-2.new.self c.release.ensures c.release-2.ensures t flags
