use Rattle.std.proofs.Common.{◌≡◌, ◌∙◌, ◌+◌, ◌*◌, subst, refl, arith}
use Rattle.kernel_tree.specs.Tree.{array_of}
use Rattle.race_marks.specs.Marked.{TracksCell}
use Rattle.race_marks.proofs.Lanes.{ClearTo, clear_start, clear_on, lane_races, none_races}
use Rattle.race_marks.proofs.cells.CellMarks.touch_four.Goals as goal

pub loop-lane-init : goal.loop-lane-init
loop-lane-init c = record { groups = refl; clear = clear_start c.args.self.now (array_of c.args.array) c.args.offset c.args.touch }

pub loop-lane-preserved : goal.loop-lane-preserved
loop-lane-preserved c =
    let a = array_of c.args.array in
    record {
      groups = c.touch_cell.ensures.groups ∙ c.loop-lane.invariant.groups;
      clear = clear_on c.args.self.now a c.args.offset c.args.touch c.loop-lane.lane c.loop-lane.self c.touch_cell.new.self c.loop-lane-test.true c.loop-lane.invariant.clear
          (subst (λ r. TracksCell c.loop-lane.self a (4 * c.args.offset + c.loop-lane.lane) c.args.touch r c.touch_cell.new.self) c.if-touch_cell.false c.touch_cell.ensures.tracks);
    }

pub returns-then-touch_cell-clause-tracks : goal.returns-then-touch_cell-clause-tracks
returns-then-touch_cell-clause-tracks c =
    let a = array_of c.args.array in
    lane_races c.args.self.now a c.args.offset c.args.touch c.loop-lane.lane c.loop-lane.self c.touch_cell.new.self c.loop-lane-test.true c.loop-lane.invariant.clear
    (subst (λ r. TracksCell c.loop-lane.self a (4 * c.args.offset + c.loop-lane.lane) c.args.touch r c.touch_cell.new.self) c.if-touch_cell.true c.touch_cell.ensures.tracks)

pub returns-clause-tracks : goal.returns-clause-tracks
returns-clause-tracks c =
    let a = array_of c.args.array in
    let last : c.loop-lane.lane ≡ 4 = let far = c.loop-lane-test.false in omega arith in
    none_races c.args.self.now a c.args.offset c.args.touch c.loop-lane.self
    (subst (λ n. ClearTo c.args.self.now a c.args.offset c.args.touch n c.loop-lane.self) last c.loop-lane.invariant.clear)
