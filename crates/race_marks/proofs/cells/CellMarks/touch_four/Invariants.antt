use Rattle.std.proofs.Common.{◌≡◌}
use Rattle.kernel_tree.specs.Tree.{array_of}
use Rattle.race_marks.proofs.Lanes.{ClearTo}
use Rattle.race_marks.proofs.cells.CellMarks.touch_four.Given as goal

abbrev pub invariant-loop-lane : goal.invariant-loop-lane
invariant-loop-lane l = record {
  groups : l.self.groups ≡ l.initial.self.groups;
  clear : ClearTo l.initial.self (array_of l.array) l.offset l.touch l.lane l.self;
}
