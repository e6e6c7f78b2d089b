use Rattle.kernel_tree.specs.Tree.{array_of}
use Rattle.race_marks.proofs.Lanes.{one_touch}
use Rattle.race_marks.proofs.cells.CellMarks.touch.Goals as goal

pub returns-clause-tracks : goal.returns-clause-tracks
returns-clause-tracks c = one_touch c.args.self.now c.touch_cell.new.self (array_of c.args.array) c.args.index c.args.touch c.touch_cell.result c.touch_cell.ensures.tracks
