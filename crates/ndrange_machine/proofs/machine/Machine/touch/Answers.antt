use Rattle.std.proofs.Common.{◌<◌, subst, sym}
use Rattle.kernel_tree.specs.Tree.{array_of}
use Rattle.race_marks.specs.Marked.{TracksAccess}
use Rattle.race_marks.specs.declared.marks.Touch.{Touch}
use Rattle.ndrange_machine.proofs.Grids.{group_marked}
use Rattle.ndrange_machine.proofs.machine.Machine.touch.Goals as goal

pub returns-clause-tracks : goal.returns-clause-tracks
returns-clause-tracks c =
    subst (λ t. TracksAccess c.args.self.now.marks (array_of c.args.array) c.args.index t c.touch.result c.touch.new.self) c.touch_of-touch.ensures c.touch.ensures.tracks

pub touch-requires : goal.touch-requires
touch-requires c = subst (λ (t : Touch). t.group < c.args.self.now.marks.groups) (sym c.touch_of-touch.ensures) (group_marked c.args.self.now c.args.item c.requires)
