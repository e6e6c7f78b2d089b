use Rattle.std.proofs.Common.{◌<◌, subst, sym}
use Rattle.kernel_tree.specs.Tree.{array_of}
use Rattle.race_marks.specs.Marked.{TracksFour}
use Rattle.race_marks.specs.declared.marks.Touch.{Touch}
use Rattle.ndrange_machine.proofs.Grids.{group_marked}
use Rattle.ndrange_machine.proofs.machine.Machine.touch_four.Goals as goal

pub returns-clause-tracks : goal.returns-clause-tracks
returns-clause-tracks c =
    subst (λ t. TracksFour c.args.self.now.marks (array_of c.args.array) c.args.offset t c.touch_four.result c.touch_four.new.self) c.touch_of-touch.ensures c.touch_four.ensures.tracks

pub touch_four-requires : goal.touch_four-requires
touch_four-requires c = subst (λ (t : Touch). t.group < c.args.self.now.marks.groups) (sym c.touch_of-touch.ensures) (group_marked c.args.self.now c.args.item c.requires)
